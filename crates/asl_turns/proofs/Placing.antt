-- How a node that waits is placed: it becomes ready, or it watches one that it uses.
use Rattle.std.proofs.Common.{◌≡◌, ℕ, ◌+◌, ◌<◌, ◌⊎◌, inl, inr, ⊎_elim, Bool, true, false, ◌==◌, List, [], ◌∷◌, length, get_or, drop, sym, ap, subst, ◌∙◌, arith, get_or-set_same, length-set}
use Rattle.std.proofs.lemmas.Bool.{eqb-true, or_cases}
use Rattle.std.proofs.lemmas.List.{drop_more}
use Rattle.std.specs.BTreeSet.{contains}
use Rattle.std.specs.Ordering.{nat_cmp}
use Rattle.asl_turns.specs.Graphs.{Graph, row, has_mark, is_among}
use Rattle.asl_turns.specs.private.Queues.{is_ready, with_watcher, IsHeld, IsPlaced, Waits, OnlyReady, IsQueueBut}
use Rattle.asl_turns.specs.declared.queue.Queue.{Queue}
use Rattle.asl_turns.proofs.Marks.{among_place, among_last, among_front, among_kept}

pub same_ready : (q next : Queue) (n : ℕ) → next.ready ≡ q.ready → is_ready next n ≡ is_ready q n
same_ready q next n e = ap (λ s. contains nat_cmp s n) e

-- ---- one more watches another

-- the watchers are the same, and one more of a node
abbrev pub Watches : ℕ → ℕ → List (List ℕ) → List (List ℕ) → Type 0
Watches used node watchers next = next ≡ with_watcher used node watchers

length_with : (used node : ℕ) (watchers next : List (List ℕ)) → Watches used node watchers next → length next ≡ length watchers
length_with used node watchers next e = ap length e ∙ length-set watchers used _

module _ (g : Graph) (settled : List Bool) where
  held_still : (used node : ℕ) (watchers next : List (List ℕ)) (n : ℕ) → Watches used node watchers next →
      IsHeld g settled watchers n → IsHeld g settled next n
  held_still used node watchers next n e h = record {
    used = h.used;
    uses = h.uses;
    unsettled = h.unsettled;
    watched = λ l.
        let was = h.watched (omega (arith, l, length_with used node watchers next e)) in
        ap (λ ws. is_among n (row ws h.used)) e
        ∙ among_kept watchers used h.used n _ (among_front n (row watchers used) (node ∷ [])) was;
  }

  pub watching_others : (q next : Queue) (used node : ℕ) → next.ready ≡ q.ready → Watches used node q.watchers.items next.watchers.items →
      (n : ℕ) → IsPlaced g settled q n → IsPlaced g settled next n
  watching_others q next used node e w n (inl r) = inl (same_ready q next n e ∙ r)
  watching_others q next used node e w n (inr h) = inr (held_still used node q.watchers.items next.watchers.items n w h)

  held_here : (used node : ℕ) (watchers next : List (List ℕ)) → Watches used node watchers next →
      is_among used (row g node) ≡ true → has_mark settled used ≡ false → IsHeld g settled next node
  held_here used node watchers next e i u = record {
    used = used;
    uses = i;
    unsettled = u;
    watched = λ l.
        let within : used < length watchers = omega (arith, l, length_with used node watchers next e) in
        ap (λ ws. is_among node (row ws used)) e
        ∙ ap (is_among node) (get_or-set_same watchers used _ [] within)
        ∙ among_last node (row watchers used);
  }

  pub watching_placed : (q next : Queue) (nodes : List ℕ) (at node : ℕ) → nodes ≡ row g node → at < length nodes →
      has_mark settled (get_or nodes at 0) ≡ false → Watches (get_or nodes at 0) node q.watchers.items next.watchers.items →
      IsPlaced g settled next node
  watching_placed q next nodes at node e l u w =
      let used = get_or nodes at 0 in
      let among = subst (λ r. is_among used r ≡ true) e (among_place nodes at l) in
      inr (held_here used node q.watchers.items next.watchers.items w among u)

  -- one node is looked at: those that were placed stay so
  pub record Looked (waiting : List Bool) (q next : Queue) (node : ℕ) : Type 0 where
    pub only : OnlyReady g waiting settled next
    pub placed : Waits g waiting node → IsPlaced g settled next node
    pub others : (n : ℕ) → IsPlaced g settled q n → IsPlaced g settled next n
    pub same : length next.watchers.items ≡ length q.watchers.items

-- ---- each of a list in turn

module _ (g : Graph) (waiting settled : List Bool) where
  but_one : (q next : Queue) (node n : ℕ) (rest : List ℕ) → Looked g settled waiting q next node → Waits g waiting n →
      IsPlaced g settled q n ⊎ (is_among n (node ∷ rest) ≡ true) → IsPlaced g settled next n ⊎ (is_among n rest ≡ true)
  but_one q next node n rest o w (inl x) = inl (o.others n x)
  but_one q next node n rest o w (inr m) = ⊎_elim (λ e. inl (this (eqb-true node n e))) inr (or_cases (node == n) (is_among n rest) m)
    where
      this : node ≡ n → IsPlaced g settled next n
      this e = subst (IsPlaced g settled next) e (o.placed (subst (Waits g waiting) (sym e) w))

  pub but_next : (q next : Queue) (nodes : List ℕ) (i : ℕ) → i < length nodes → IsQueueBut g waiting settled q (drop i nodes) →
      Looked g settled waiting q next (get_or nodes i 0) → IsQueueBut g waiting settled next (drop (i + 1) nodes)
  but_next q next nodes i b h o = record {
    only = o.only;
    placed = λ n w.
        let was = subst (λ r. IsPlaced g settled q n ⊎ (is_among n r ≡ true)) (drop_more nodes i 0 b) (h.placed n w) in
        but_one q next (get_or nodes i 0) n (drop (i + 1) nodes) o w was;
    same = o.same ∙ h.same;
  }
