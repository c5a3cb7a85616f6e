-- Graphs, each node of which uses others, and marks on their nodes.
use Rattle.std.specs.Prelude.{ℕ, Bool, true, false, ◌&&◌, ◌||◌, ◌==◌, List, [], ◌∷◌, slice_index_or}

-- for each node those that it uses
abbrev pub Graph : Type 0
Graph = List (List ℕ)

-- the nodes that one uses
abbrev pub row : Graph → ℕ → List ℕ
row g n = slice_index_or g n []

-- the node has its mark
abbrev pub has_mark : List Bool → ℕ → Bool
has_mark marks n = slice_index_or marks n false

abbrev pub all_marked : List Bool → List ℕ → Bool
all_marked marks [] = true
all_marked marks (n ∷ ns) = has_mark marks n && all_marked marks ns

abbrev pub is_among : ℕ → List ℕ → Bool
is_among n [] = false
is_among n (m ∷ ms) = (m == n) || is_among n ms
