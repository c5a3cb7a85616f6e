-- Where the nodes that wait are: among those that are ready, or among the watchers of one that they use.
use Rattle.std.specs.Prelude.{◌≡◌, ℕ, ◌<◌, ◌≤◌, ◌⊎◌, Bool, true, false, ◌&&◌, not, ◌==◌, List, [], ◌∷◌, ◌++◌, length, Option, MatchOption, slice_set}
use Rattle.std.specs.BTreeSet.{contains}
use Rattle.std.specs.Ordering.{nat_cmp}
use Rattle.asl_turns.specs.Graphs.{Graph, row, has_mark, all_marked, is_among}
use Rattle.asl_turns.specs.declared.queue.Queue.{Queue}

abbrev pub is_ready : Queue → ℕ → Bool
is_ready q n = contains nat_cmp q.ready n

-- the watchers of each node, and one more of this one
abbrev pub with_watcher : ℕ → ℕ → List (List ℕ) → List (List ℕ)
with_watcher used n watchers = slice_set watchers used (row watchers used ++ n ∷ [])

-- a node watches one that it uses and that isn't settled, unless that is none of the graph
pub record IsHeld (g : Graph) (settled : List Bool) (watchers : List (List ℕ)) (n : ℕ) : Type 0 where
  pub used : ℕ
  pub uses : is_among used (row g n) ≡ true
  pub unsettled : has_mark settled used ≡ false
  pub watched : used < length watchers → is_among n (row watchers used) ≡ true

abbrev pub IsPlaced : Graph → List Bool → Queue → ℕ → Type 0
IsPlaced g settled q n = (is_ready q n ≡ true) ⊎ IsHeld g settled q.watchers.items n

-- a node of the graph waits
abbrev pub Waits : Graph → List Bool → ℕ → Type 0
Waits g waiting n = (n < length g) × (has_mark waiting n ≡ true)

-- the ready ones wait, and use only settled ones
abbrev pub OnlyReady : Graph → List Bool → List Bool → Queue → Type 0
OnlyReady g waiting settled q = (n : ℕ) → is_ready q n ≡ true → Waits g waiting n × (all_marked settled (row g n) ≡ true)

-- each that waits is ready, or watches another
pub record IsQueue (g : Graph) (waiting settled : List Bool) (q : Queue) : Type 0 where
  pub only : OnlyReady g waiting settled q
  pub placed : (n : ℕ) → Waits g waiting n → IsPlaced g settled q n
  pub same : length q.watchers.items ≡ length settled

-- the same, but for some of these nodes
pub record IsQueueBut (g : Graph) (waiting settled : List Bool) (q : Queue) (nodes : List ℕ) : Type 0 where
  pub only : OnlyReady g waiting settled q
  pub placed : (n : ℕ) → Waits g waiting n → IsPlaced g settled q n ⊎ (is_among n nodes ≡ true)
  pub same : length q.watchers.items ≡ length settled

-- nothing is ready, or the least that is has gone
abbrev pub HasGone : Queue → Option ℕ → Queue → Type 0
HasGone q r left = MatchOption r (((n : ℕ) → is_ready q n ≡ false) × ((n : ℕ) → is_ready left n ≡ false))
    (λ k. (is_ready q k ≡ true) × ((n : ℕ) → is_ready q n ≡ true → k ≤ n) × ((n : ℕ) → is_ready left n ≡ (not (k == n) && is_ready q n)))
