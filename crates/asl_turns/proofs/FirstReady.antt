-- The node that the queue gives is the one whose turn it is.
use Rattle.std.proofs.Common.{◌≡◌, ℕ, zero, suc, ◌+◌, ◌<◌, inl, inr, Bool, true, false, ◌&&◌, List, [], ◌∷◌, length, Option, Some, None, refl, sym, ap, ◌∙◌, arith, add-zero, zero-add}
use Rattle.std.proofs.lemmas.Bool.{false≢true, both_ways, and_parts, and_from, cond-true, cond-false, false_from_ne_true}
use Rattle.asl_turns.specs.Graphs.{Graph, row, has_mark, all_marked}
use Rattle.asl_turns.specs.Turns.{first_ready}
use Rattle.asl_turns.specs.private.Queues.{is_ready, IsPlaced, IsQueue, HasGone}
use Rattle.asl_turns.specs.declared.queue.Queue.{Queue}
use Rattle.asl_turns.proofs.Marks.{among_marked}

-- ---- the first

module _ (settled : List Bool) where
  -- a node waits and uses only settled ones
  Ready : Graph → List Bool → ℕ → Type 0
  Ready g ws k = (k < length g) × (has_mark ws k ≡ true) × (all_marked settled (row g k) ≡ true)

  not_first : (r : List ℕ) (rs : Graph) (w : Bool) (ws : List Bool) → (Ready (r ∷ rs) (w ∷ ws) 0 → ⊥) → (w && all_marked settled r) ≡ false
  unfolding Ready
  not_first r rs w ws h =
      false_from_ne_true (w && all_marked settled r) (λ e. let p = and_parts w (all_marked settled r) e in h (omega arith, p.0, p.1))

  later : (r : List ℕ) (rs : Graph) (w : Bool) (ws : List Bool) (k : ℕ) → Ready rs ws k → Ready (r ∷ rs) (w ∷ ws) (suc k)
  unfolding Ready
  later r rs w ws k z = (omega (arith, z.0), z.1, z.2)

  before : (r : List ℕ) (rs : Graph) (w : Bool) (ws : List Bool) (k : ℕ) → Ready (r ∷ rs) (w ∷ ws) (suc k) → Ready rs ws k
  unfolding Ready
  before r rs w ws k z = (omega (arith, z.0), z.1, z.2)

  first_none : (n : ℕ) (g : Graph) (ws : List Bool) → ((k : ℕ) → Ready g ws k → ⊥) → first_ready settled n g ws ≡ None
  first_none n [] ws h = refl
  first_none n (r ∷ rs) [] h = refl
  first_none n (r ∷ rs) (w ∷ ws) h =
      cond-false (w && all_marked settled r) _ _ (not_first r rs w ws (h 0))
      ∙ first_none (suc n) rs ws (λ k z. h (suc k) (later r rs w ws k z))

  first_some : (n : ℕ) (g : Graph) (ws : List Bool) (k : ℕ) → Ready g ws k → ((i : ℕ) → i < k → Ready g ws i → ⊥) →
      first_ready settled n g ws ≡ Some (n + k)
  unfolding Ready
  first_some n [] ws k z h = absurd (omega (arith, z.0))
  first_some n (r ∷ rs) [] k z h = absurd (false≢true z.1)
  first_some n (r ∷ rs) (w ∷ ws) zero z h =
      cond-true (w && all_marked settled r) _ _ (and_from w (all_marked settled r) z.1 z.2) ∙ ap Some (sym (add-zero n))
  first_some n (r ∷ rs) (w ∷ ws) (suc k) z h =
      cond-false (w && all_marked settled r) _ _ (not_first r rs w ws (h 0 (omega arith)))
      ∙ first_some (suc n) rs ws k (before r rs w ws k z) (λ i b y. h (suc i) (omega (arith, b)) (later r rs w ws i y))
      ∙ ap Some (omega arith)

-- ---- what is ready is in the queue

module _ (g : Graph) (waiting settled : List Bool) where
  queued : (q : Queue) (n : ℕ) → IsQueue g waiting settled q → Ready settled g waiting n → is_ready q n ≡ true
  unfolding Ready
  queued q n h z = by (h.placed n (z.0, z.1))
    where
      by : IsPlaced g settled q n → is_ready q n ≡ true
      by (inl r) = r
      by (inr d) = absurd (both_ways (has_mark settled d.used) d.unsettled (among_marked settled (row g n) d.used z.2 d.uses))

  pub turn_is : (q left : Queue) (r : Option ℕ) → IsQueue g waiting settled q → HasGone q r left → r ≡ first_ready settled 0 g waiting
  unfolding Ready
  turn_is q left None h p = sym (first_none settled 0 g waiting (λ k z. both_ways (is_ready q k) (p.0 k) (queued q k h z)))
  turn_is q left (Some k) h p =
      let o = h.only k p.0 in
      sym (first_some settled 0 g waiting k (o.0.0, o.0.1, o.1) least ∙ ap Some (zero-add k))
    where
      least : (i : ℕ) → i < k → Ready settled g waiting i → ⊥
      least i b z = let l = p.1 i (queued q i h z) in omega (arith, b, l)
