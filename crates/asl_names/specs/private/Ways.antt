-- Ways from node to node of a graph, and lists of the nodes that there is a way to.
use Rattle.std.specs.Prelude.{◌≡◌, ℕ, ◌+◌, ◌<◌, ◌⊎◌, Bool, true, false, ◌&&◌, List, [], ◌∷◌, ◌++◌, length, slice_index}
use Rattle.asl_turns.specs.Graphs.{Graph, row, has_mark, all_marked, is_among}

-- how many have no mark
abbrev pub unmarked : List Bool → ℕ
unmarked [] = 0
unmarked (true ∷ marks) = unmarked marks
unmarked (false ∷ marks) = 1 + unmarked marks

-- the nodes with a mark are those that are listed
abbrev pub IsListed : List ℕ → List Bool → Type 0
IsListed nodes marks = (n : ℕ) → has_mark marks n ≡ is_among n nodes

-- what stays where a node gets its mark and is listed
abbrev pub room : List ℕ → List Bool → ℕ
room nodes marks = unmarked marks + length nodes

-- ---- ways

-- a way from one node over these to another
abbrev pub is_way : Graph → ℕ → List ℕ → ℕ → Bool
is_way g n [] m = is_among m (row g n)
is_way g n (k ∷ ks) m = is_among k (row g n) && is_way g k ks m

abbrev pub HasWay : Graph → ℕ → ℕ → Type 0
HasWay g n m = (ks : List ℕ) × (is_way g n ks m ≡ true)

-- each node that is used is one of the graph
abbrev pub HasEdges : Graph → Type 0
HasEdges g = (n k : ℕ) → is_among k (row g n) ≡ true → k < length g

-- ---- walks

-- the nodes of the first list are among the second
abbrev pub Within : List ℕ → List ℕ → Type 0
Within ns ms = (k : ℕ) → is_among k ns ≡ true → is_among k ms ≡ true

-- the marks of the first are among the second
abbrev pub MarkedMore : List Bool → List Bool → Type 0
MarkedMore marks more = (k : ℕ) → has_mark marks k ≡ true → has_mark more k ≡ true

-- the second list is the first, and then some of these
abbrev pub Goes : List ℕ → List ℕ → List ℕ → Type 0
Goes nodes ns all = (more : List ℕ) × (all ≡ nodes ++ more) × Within more ns

-- these nodes are of a graph of so many
abbrev pub Below : List ℕ → ℕ → Type 0
Below ns count = (k : ℕ) → is_among k ns ≡ true → k < count

-- the second list is the first, or with this one more
abbrev pub FoundOne : List ℕ → ℕ → List ℕ → Type 0
FoundOne nodes n all = (all ≡ nodes) ⊎ (all ≡ nodes ++ n ∷ [])

-- the first so many of these have their marks
abbrev pub MarkedTo : List Bool → List ℕ → ℕ → Type 0
MarkedTo marks ns at = (i : ℕ) → i < at → has_mark marks (slice_index ns i) ≡ true

-- all that the first so many of these use has its mark
abbrev pub ClosedTo : Graph → List Bool → List ℕ → ℕ → Type 0
ClosedTo g marks nodes at = (i : ℕ) → i < at → all_marked marks (row g (slice_index nodes i)) ≡ true

-- each of these has a way from a node
abbrev pub Reached : Graph → ℕ → List ℕ → Type 0
Reached g start nodes = (k : ℕ) → is_among k nodes ≡ true → HasWay g start k
