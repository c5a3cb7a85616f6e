-- Numbers for the nodes of a graph, which don't rise along its edges.
use Rattle.std.specs.Prelude.{◌≡◌, ℕ, Bool, true, false, ◌&&◌, ◌||◌, ◌==◌, nat_le, List, [], ◌∷◌, slice_index_or}
use Rattle.asl_turns.specs.Graphs.{Graph, row}

-- the number of a node
abbrev pub level : List ℕ → ℕ → ℕ
level levels n = slice_index_or levels n 0

-- one of these has this number
abbrev pub has_level : List ℕ → List ℕ → ℕ → Bool
has_level levels [] k = false
has_level levels (n ∷ ns) k = (level levels n == k) || has_level levels ns k

-- none of these has a greater number
abbrev pub are_below : List ℕ → List ℕ → ℕ → Bool
are_below levels [] k = true
are_below levels (n ∷ ns) k = nat_le (level levels n) k && are_below levels ns k

-- no node uses one of a greater number
abbrev pub IsFalling : Graph → List ℕ → Type 0
IsFalling g levels = (n : ℕ) → are_below levels (row g n) (level levels n) ≡ true
