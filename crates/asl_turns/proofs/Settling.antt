-- A node is settled: those that watched it have to be looked at again, and the others stay where they are.
use Rattle.std.proofs.Common.{◌≡◌, ◌≢◌, ℕ, ◌<◌, ◌≤◌, ◌⊎◌, inl, inr, ⊎_elim, Bool, true, false, List, [], length, set, sym, ap, subst, ◌∙◌, arith, get_or-set_other, length-set}
use Rattle.std.proofs.lemmas.Bool.{cases_eq, cases_lt}
use Rattle.asl_turns.specs.Graphs.{Graph, row, is_among}
use Rattle.asl_turns.specs.private.Queues.{IsHeld, IsPlaced, IsQueue, IsQueueBut}
use Rattle.asl_turns.specs.declared.queue.Queue.{Queue}
use Rattle.asl_turns.proofs.Marks.{set_past, mark_kept, marked_more}
use Rattle.asl_turns.proofs.Placing.{same_ready}

module _ (g : Graph) (settled : List Bool) (node : ℕ) where
  -- the watchers of the others stay
  held_by_other : (watchers next : List (List ℕ)) (n : ℕ) → next ≡ set watchers node [] → (h : IsHeld g settled watchers n) →
      h.used ≢ node →
      IsHeld g (set settled node true) next n
  held_by_other watchers next n e h z = record {
    used = h.used;
    uses = h.uses;
    unsettled = get_or-set_other settled node h.used true false z ∙ h.unsettled;
    watched = λ l.
        let within : h.used < length watchers = omega (arith, l, ap length e, length-set watchers node []) in
        ap (λ ws. is_among n (row ws h.used)) e ∙ ap (is_among n) (get_or-set_other watchers node h.used [] [] z) ∙ h.watched within;
  }

  -- what is no node of the graph is never settled
  held_outside : (watchers next : List (List ℕ)) (n : ℕ) → next ≡ set watchers node [] → length watchers ≡ length settled →
      length watchers ≤ node → IsHeld g settled watchers n → IsHeld g (set settled node true) next n
  held_outside watchers next n e s l h =
      let marks = set_past settled node true (omega (arith, s, l)) in
      let rows = e ∙ set_past watchers node [] l in
      subst (λ ws. IsHeld g (set settled node true) ws n) (sym rows) (subst (λ ms. IsHeld g ms watchers n) (sym marks) h)

  pub settled_but : (waiting : List Bool) (q next : Queue) (taken : List ℕ) → IsQueue g waiting settled q → next.ready ≡ q.ready →
      next.watchers.items ≡ set q.watchers.items node [] → taken ≡ row q.watchers.items node →
      IsQueueBut g waiting (set settled node true) next taken
  settled_but waiting q next taken h e w t = record {
    only = λ n r.
        let o = h.only n (sym (same_ready q next n e) ∙ r) in
        (o.0, marked_more settled (set settled node true) (mark_kept settled node) (row g n) o.1);
    placed = λ n z. by n (h.placed n z);
    same = ap length w ∙ length-set q.watchers.items node [] ∙ h.same ∙ sym (length-set settled node true);
  }
    where
      watcher : (n : ℕ) (d : IsHeld g settled q.watchers.items n) → d.used ≡ node →
          IsPlaced g (set settled node true) next n ⊎ (is_among n taken ≡ true)
      watcher n d u =
          ⊎_elim (λ l. inr (ap (is_among n) (t ∙ ap (row q.watchers.items) (sym u)) ∙ d.watched (omega (arith, u, l))))
          (λ l. inl (inr (held_outside q.watchers.items next.watchers.items n w h.same l d)))
          (cases_lt node (length q.watchers.items))

      by : (n : ℕ) → IsPlaced g settled q n → IsPlaced g (set settled node true) next n ⊎ (is_among n taken ≡ true)
      by n (inl r) = inl (inl (same_ready q next n e ∙ r))
      by n (inr d) =
          ⊎_elim (watcher n d) (λ z. inl (inr (held_by_other q.watchers.items next.watchers.items n w d z))) (cases_eq d.used node)
