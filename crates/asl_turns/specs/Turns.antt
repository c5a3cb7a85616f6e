-- Whose turn it is among the nodes of a graph that wait: the least that uses only settled ones.
use Rattle.std.specs.Prelude.{ℕ, suc, ◌+◌, Bool, true, false, ◌&&◌, if◌then◌else◌, List, [], ◌∷◌, map, Option, None, Some, slice_set}
use Rattle.asl_turns.specs.Graphs.{Graph, all_marked}

-- a graph, and for each of its nodes whether it waits and whether it is settled
pub record Marked : Type 0 where
  pub graph : Graph
  pub waiting : List Bool
  pub settled : List Bool

-- the first of these nodes that waits and uses only settled ones, counted from n
abbrev pub first_ready : List Bool → ℕ → Graph → List Bool → Option ℕ
first_ready settled n [] ws = None
first_ready settled n (r ∷ rs) [] = None
first_ready settled n (r ∷ rs) (w ∷ ws) = if w && all_marked settled r then Some n else first_ready settled (suc n) rs ws

-- the node whose turn it is
abbrev pub next_turn : Marked → Option ℕ
next_turn m = first_ready m.settled 0 m.graph m.waiting

abbrev pub none_settled : Graph → List Bool
none_settled g = map (λ (r : List ℕ). false) g

-- before the first turn
abbrev pub begun : Graph → List Bool → Marked
begun g ws = record { graph = g; waiting = ws; settled = none_settled g }

-- the node whose turn it was waits no longer
abbrev pub turned : Option ℕ → Marked → Marked
turned None m = m
turned (Some n) m = record m { waiting = slice_set m.waiting n false }

abbrev pub with_settled : ℕ → Marked → Marked
with_settled n m = record m { settled = slice_set m.settled n true }

-- how many wait
abbrev pub waits : List Bool → ℕ
waits [] = 0
waits (true ∷ ws) = 1 + waits ws
waits (false ∷ ws) = waits ws
