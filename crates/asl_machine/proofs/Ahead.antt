-- Where a run is given up, it has no fewer steps left than the whole run leaves. By the shape of plans alone.
use Rattle.std.proofs.Common.{◌≡◌, ℕ, zero, suc, ◌-◌, ◌==◌, ◌≤◌, false, ◌⊎◌, inl, inr, sym, subst, arith}
use Rattle.asl_syn.specs.declared.token.Span.{Span}
use Rattle.asl_rules.specs.runs.Cuts.{Cutting, rest, within, cuts, cuttings, entered}
use Rattle.asl_rules.specs.runs.Plans.{Meter, Outcome, Done, Thrown, Halt, final, Plan, Ret, Raise, Stop, Eval, Exec, Put, Within}
use Rattle.asl_rules.specs.runs.Plans.{Meaning, handle, run, wrote, enter, Nodes, meanings}
use Rattle.asl_rules.specs.values.Values.{Value, Exit}
use Rattle.asl_laws.proofs.runs.Budget.{After, self, handle_after, thrown_after, Grows, run_after, grows, enter_some}
use Rattle.asl_laws.proofs.runs.Given.{was_entered}

-- what ended there has no more steps left
abbrev Reaches : {C A : Type 0} → Meter → Outcome C A → Type 0
Reaches u r = (final r).steps ≤ u.steps

-- so do the nodes below
record Ahead {C E S : Type 0} (m : Meaning C E S) (z : Cutting C E S) : Type 0 where
  grows : Grows m
  expr : (e : E) (c : C) (h u : Meter) → z.expr e c h u → Reaches u (m.expr e c h)
  stmt : (t : S) (c : C) (h u : Meter) → z.stmt t c h u → Reaches u (m.stmt t c h)

further : {C A B : Type 0} (u : Meter) (r : Outcome C B) (s : Outcome C A) → Reaches u r → After (final r) (final s) → Reaches u s
further u r s l a = omega (arith, l, a.steps)

later : {C A : Type 0} (h u : Meter) (r : Outcome C A) → u ≡ h → After h (final r) → Reaches u r
later h u r e a = subst (λ (k : Meter). (final r).steps ≤ k.steps) (sym e) a.steps

rest_ahead : {C A B : Type 0} (u : Meter) (r : Outcome C B) (F : B → C → Meter → Type 0) (G : Value → C → Meter → Type 0)
    (f : B → C → Meter → Outcome C A) (g : Value → C → Meter → Outcome C A) → ((x : B) (c : C) (h : Meter) → F x c h → Reaches u (f x c h)) →
    ((x : Value) (c : C) (h : Meter) → G x c h → Reaches u (g x c h)) → rest r F G → Reaches u (handle r f g)
rest_ahead u (Done x c h) F G f g kf kg w = kf x c h w
rest_ahead u (Thrown x c h) F G f g kf kg w = kg x c h w
rest_ahead u (Halt e c h) F G f g kf kg w = absurd w

never : {C : Type 0} (A : Type 0) (u : Meter) (x : Value) (c : C) (h : Meter) → ⊥ → Reaches u (let r : Outcome C A = Thrown x c h in r)
never A u x c h w = absurd w

module _ {C E S : Type 0} (m : Meaning C E S) (z : Cutting C E S) (v : Ahead m z) where
  -- at the beginning, or behind it
  here_or : {A W : Type 0} (q : Plan C E S A) (h u : Meter) → (W → Reaches u (run m q h)) → (u ≡ h) ⊎ W → Reaches u (run m q h)
  here_or q h u k (inl e) = later h u (run m q h) e (run_after m v.grows q h)
  here_or q h u k (inr w) = k w

  within_ahead : {A : Type 0} (q : Plan C E S A) (h u : Meter) → within m z q h u → Reaches u (run m q h)
  within_ahead (Ret x c) h u w = absurd w
  within_ahead (Raise x c) h u w = absurd w
  within_ahead (Stop e c) h u w = absurd w
  within_ahead {A = A} (Eval e c k) h u (inl w) =
      let r = m.expr e c h in
      let f : Value → C → Meter → Outcome C A = λ x c1 h1. run m (k x c1) h1 in
      further u r (handle r f Thrown) (v.expr e c h u w)
      (handle_after r f Thrown (self (final r)) (λ x c1 h1. run_after m v.grows (k x c1) h1) (thrown_after A))
  within_ahead {A = A} (Eval e c k) h u (inr w) =
      rest_ahead u (m.expr e c h) (λ x c1 h1. cuts m z (k x c1) h1 u) (λ x c1 h1. ⊥) (λ x c1 h1. run m (k x c1) h1) Thrown
      (λ x c1 h1. here_or (k x c1) h1 u (within_ahead (k x c1) h1 u)) (never A u) w
  within_ahead {A = A} (Exec t c k) h u (inl w) =
      let r = m.stmt t c h in
      let f : Exit → C → Meter → Outcome C A = λ x c1 h1. run m (k x c1) h1 in
      further u r (handle r f Thrown) (v.stmt t c h u w)
      (handle_after r f Thrown (self (final r)) (λ x c1 h1. run_after m v.grows (k x c1) h1) (thrown_after A))
  within_ahead {A = A} (Exec t c k) h u (inr w) =
      rest_ahead u (m.stmt t c h) (λ x c1 h1. cuts m z (k x c1) h1 u) (λ x c1 h1. ⊥) (λ x c1 h1. run m (k x c1) h1) Thrown
      (λ x c1 h1. here_or (k x c1) h1 u (within_ahead (k x c1) h1 u)) (never A u) w
  within_ahead (Put bytes q) h u (inl w) =
      let a = (run_after m v.grows q (wrote h bytes)).steps in
      omega (arith, a, w.0)
  within_ahead (Put bytes q) h u (inr w) = within_ahead q (wrote h bytes) u w
  within_ahead (Within q f g) h u (inl w) =
      further u (run m q h) (handle (run m q h) (λ x c1 h1. run m (f x c1) h1) (λ x c1 h1. run m (g x c1) h1)) (within_ahead q h u w)
      (handle_after (run m q h) (λ x c1 h1. run m (f x c1) h1) (λ x c1 h1. run m (g x c1) h1) (self (final (run m q h)))
      (λ x c1 h1. run_after m v.grows (f x c1) h1) (λ x c1 h1. run_after m v.grows (g x c1) h1))
  within_ahead (Within q f g) h u (inr w) =
      rest_ahead u (run m q h) (λ x c1 h1. cuts m z (f x c1) h1 u) (λ x c1 h1. cuts m z (g x c1) h1 u)
      (λ x c1 h1. run m (f x c1) h1) (λ x c1 h1. run m (g x c1) h1)
      (λ x c1 h1. here_or (f x c1) h1 u (within_ahead (f x c1) h1 u)) (λ x c1 h1. here_or (g x c1) h1 u (within_ahead (g x c1) h1 u)) w

  cut_ahead : {A : Type 0} (q : Plan C E S A) (h u : Meter) → cuts m z q h u → Reaches u (run m q h)
  cut_ahead q h u = here_or q h u (within_ahead q h u)

  -- a node
  node_ahead : {A : Type 0} (span : Span) (q : Plan C E S A) (c : C) (h u : Meter) →
      entered (h.steps == 0) (cuts m z q (record h { steps = h.steps - 1 }) u) → Reaches u (enter span false c h (run m q))
  node_ahead span q c h u w =
      let p = was_entered h.steps (cuts m z q (record h { steps = h.steps - 1 }) u) w in
      subst (λ r. Reaches u r) (sym (enter_some span false c h (run m q) p.0)) (cut_ahead q (record h { steps = h.steps - 1 }) u p.1)

ahead : {C E S : Type 0} (n : Nodes C E S) (d : ℕ) → Ahead (meanings n d) (cuttings n d)
ahead n zero = record { grows = grows n zero; expr = λ e c h u w. absurd w; stmt = λ t c h u w. absurd w }
ahead n (suc d) =
    let m = meanings n d in
    let z = cuttings n d in
    record {
      grows = grows n (suc d);
      expr = λ e c h u. node_ahead m z (ahead n d) (n.expr_at e) (n.expr e c) c h u;
      stmt = λ t c h u. node_ahead m z (ahead n d) (n.stmt_at t) (n.stmt t c) c h u;
    }

pub cuts_ahead : {C E S A : Type 0} (n : Nodes C E S) (d : ℕ) (q : Plan C E S A) (h u : Meter) →
    cuts (meanings n d) (cuttings n d) q h u → (final (run (meanings n d) q h)).steps ≤ u.steps
cuts_ahead n d q h u = cut_ahead (meanings n d) (cuttings n d) (ahead n d) q h u
