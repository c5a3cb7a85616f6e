-- Plans that write nothing before a node is entered, and the promise of a run that was given up. By the shape of plans alone.
use Rattle.std.proofs.Common.{◌≡◌, ℕ, zero, suc, ◌+◌, ◌-◌, ◌==◌, ◌<◌, ◌≤◌, true, false, ◌⊎◌, inl, inr, List, Option, refl, sym, ap, ◌∙◌, subst, arith}
use Rattle.std.proofs.lemmas.Bool.{cases_eq}
use Rattle.asl_rules.specs.runs.Plans.{Meter, Faulted, Outcome, Done, Thrown, Halt, final, Plan, Ret, Raise, Stop, Eval, Exec, Put, Within, Meaning, handle, run, enter, Nodes, meanings}
use Rattle.asl_rules.specs.runs.Told.{Begins}
use Rattle.asl_rules.specs.runs.Cuts.{Cutting, rest, within, cuts, cuttings, entered}
use Rattle.asl_rules.specs.runs.Machines.{GivenUp}
use Rattle.asl_syn.specs.declared.code.DynCode.TheVariants.{D12}
use Rattle.asl_syn.specs.declared.token.Span.{Span}
use Rattle.asl_rules.specs.values.Values.{Value}
use Rattle.asl_laws.proofs.runs.Budget.{After, run_after, grows, Below, below_after, enter_none, enter_some, longer, low_told, run_low, lows}
use Rattle.asl_laws.proofs.runs.Given.{Kept, kept, cuts_after, cuts_upper, cuts_lower, was_entered}

-- nothing is written before a node is entered
abbrev pub Quiet : {C E S A : Type 0} → Plan C E S A → Type 0
Quiet (Ret x c) = Unit {0}
Quiet (Raise x c) = Unit {0}
Quiet (Stop e c) = Unit {0}
Quiet (Eval e c k) = Unit {0}
Quiet (Exec t c k) = Unit {0}
Quiet (Put bytes q) = ⊥
Quiet (Within q f g) = Quiet q × ((x : _) (c : _) → Quiet (f x c)) × ((x : Value) (c : _) → Quiet (g x c))

-- where no step was used, the text is the same
abbrev Calm : {C A : Type 0} → Meter → Outcome C A → Type 0
Calm h (Done x c u) = u.steps ≡ h.steps → u.told ≡ h.told
Calm h (Thrown x c u) = u.steps ≡ h.steps → u.told ≡ h.told
Calm h (Halt e c u) = Unit {0}

calm_less : {C A : Type 0} (h h1 : Meter) (r : Outcome C A) → h1.steps < h.steps → After h1 (final r) → Calm h r
calm_less h h1 (Done x c u) b a = λ e. absurd (let s = a.steps in omega (arith, b, s, e))
calm_less h h1 (Thrown x c u) b a = λ e. absurd (let s = a.steps in omega (arith, b, s, e))
calm_less h h1 (Halt e c u) b a = tt

-- a node uses a step, and given up, it has used one
record Steps_down {C E S : Type 0} (m : Meaning C E S) (z : Cutting C E S) : Type 0 where
  pub kept : Kept m z
  pub expr : (e : E) (c : C) (h : Meter) → Below h.steps (m.expr e c h)
  pub stmt : (t : S) (c : C) (h : Meter) → Below h.steps (m.stmt t c h)
  pub expr_cut : (e : E) (c : C) (h u : Meter) → z.expr e c h u → u.steps < h.steps
  pub stmt_cut : (t : S) (c : C) (h u : Meter) → z.stmt t c h u → u.steps < h.steps

calm_bind : {C A B : Type 0} (h : Meter) (r : Outcome C B) (f : B → C → Meter → Outcome C A) → Below h.steps r → ((x : B) (c : C) (h1 : Meter) → After h1 (final (f x c h1))) → Calm h (handle r f Thrown)
calm_bind h (Done x c h1) f b kf = calm_less h h1 (f x c h1) b (kf x c h1)
calm_bind h (Thrown x c h1) f b kf = λ e. absurd (omega (arith, b, e))
calm_bind h (Halt e c h1) f b kf = tt

calm_same : {C A : Type 0} (h h1 : Meter) (r : Outcome C A) → Calm h1 r → (h1.steps ≡ h.steps → h1.told ≡ h.told) → h1.steps ≤ h.steps → After h1 (final r) → Calm h r
calm_same h h1 (Done x c u) k t l a = λ e. (let s = a.steps in k (omega (arith, l, s, e))) ∙ (let s = a.steps in t (omega (arith, l, s, e)))
calm_same h h1 (Thrown x c u) k t l a = λ e. (let s = a.steps in k (omega (arith, l, s, e))) ∙ (let s = a.steps in t (omega (arith, l, s, e)))
calm_same h h1 (Halt e c u) k t l a = tt

calm_handle : {C A B : Type 0} (h : Meter) (r : Outcome C B) (f : B → C → Meter → Outcome C A) (g : Value → C → Meter → Outcome C A) → After h (final r) → Calm h r → ((x : B) (c : C) (h1 : Meter) → Calm h1 (f x c h1)) → ((x : Value) (c : C) (h1 : Meter) → Calm h1 (g x c h1)) → ((x : B) (c : C) (h1 : Meter) → After h1 (final (f x c h1))) → ((x : Value) (c : C) (h1 : Meter) → After h1 (final (g x c h1))) → Calm h (handle r f g)
calm_handle h (Done x c h1) f g a k kf kg af ag = calm_same h h1 (f x c h1) (kf x c h1) k a.steps (af x c h1)
calm_handle h (Thrown x c h1) f g a k kf kg af ag = calm_same h h1 (g x c h1) (kg x c h1) k a.steps (ag x c h1)
calm_handle h (Halt e c h1) f g a k kf kg af ag = tt

-- what is given up where no step was used has the text as it was
rest_less : {C B : Type 0} (h u : Meter) (r : Outcome C B) (F : B → C → Meter → Type 0) → Below h.steps r → ((x : B) (c : C) (h1 : Meter) → F x c h1 → After h1 u) → rest r F (λ x c h1. ⊥) → u.steps < h.steps
rest_less h u (Done x c h1) F b k w = let s = (k x c h1 w).steps in omega (arith, b, s)
rest_less h u (Thrown x c h1) F b k w = absurd w
rest_less h u (Halt e c h1) F b k w = absurd w

rest_same : {C B : Type 0} (h u : Meter) (r : Outcome C B) (F : B → C → Meter → Type 0) (G : Value → C → Meter → Type 0) → After h (final r) → Calm h r → ((x : B) (c : C) (h1 : Meter) → F x c h1 → After h1 u) → ((x : Value) (c : C) (h1 : Meter) → G x c h1 → After h1 u) → ((x : B) (c : C) (h1 : Meter) → F x c h1 → u.steps ≡ h1.steps → u.told ≡ h1.told) → ((x : Value) (c : C) (h1 : Meter) → G x c h1 → u.steps ≡ h1.steps → u.told ≡ h1.told) → rest r F G → u.steps ≡ h.steps → u.told ≡ h.told
rest_same h u (Done x c h1) F G a k af ag kf kg w e = let s = a.steps in let t = (af x c h1 w).steps in kf x c h1 w (omega (arith, s, t, e)) ∙ k (omega (arith, s, t, e))
rest_same h u (Thrown x c h1) F G a k af ag kf kg w e = let s = a.steps in let t = (ag x c h1 w).steps in kg x c h1 w (omega (arith, s, t, e)) ∙ k (omega (arith, s, t, e))
rest_same h u (Halt x c h1) F G a k af ag kf kg w e = absurd w

here_same : {W : Type 0} (h u : Meter) → (W → u.steps ≡ h.steps → u.told ≡ h.told) → (u ≡ h) ⊎ W → u.steps ≡ h.steps → u.told ≡ h.told
here_same h u f (inl e) q = ap (λ k. k.told) e
here_same h u f (inr w) q = f w q

module _ {C E S : Type 0} (m : Meaning C E S) (z : Cutting C E S) (v : Steps_down m z) where
  run_calm : {A : Type 0} (q : Plan C E S A) (h : Meter) → Quiet q → Calm h (run m q h)
  run_calm (Ret x c) h s = λ e. refl
  run_calm (Raise x c) h s = λ e. refl
  run_calm (Stop e c) h s = tt
  run_calm (Eval e c k) h s = calm_bind h (m.expr e c h) (λ x c1 h1. run m (k x c1) h1) (v.expr e c h) (λ x c1 h1. run_after m v.kept.grows (k x c1) h1)
  run_calm (Exec t c k) h s = calm_bind h (m.stmt t c h) (λ x c1 h1. run m (k x c1) h1) (v.stmt t c h) (λ x c1 h1. run_after m v.kept.grows (k x c1) h1)
  run_calm (Put bytes q) h s = absurd s
  run_calm (Within q f g) h s = calm_handle h (run m q h) (λ x c1 h1. run m (f x c1) h1) (λ x c1 h1. run m (g x c1) h1) (run_after m v.kept.grows q h) (run_calm q h s.0) (λ x c1 h1. run_calm (f x c1) h1 (s.1 x c1)) (λ x c1 h1. run_calm (g x c1) h1 (s.2 x c1)) (λ x c1 h1. run_after m v.kept.grows (f x c1) h1) (λ x c1 h1. run_after m v.kept.grows (g x c1) h1)

  within_same : {A : Type 0} (q : Plan C E S A) (h u : Meter) → Quiet q → within m z q h u → u.steps ≡ h.steps → u.told ≡ h.told
  within_same (Ret x c) h u s w e = absurd w
  within_same (Raise x c) h u s w e = absurd w
  within_same (Stop n c) h u s w e = absurd w
  within_same (Eval n c k) h u s (inl w) e = let b = v.expr_cut n c h u w in absurd (omega (arith, b, e))
  within_same (Eval n c k) h u s (inr w) e = let b = rest_less h u (m.expr n c h) (λ x c1 h1. cuts m z (k x c1) h1 u) (v.expr n c h) (λ x c1 h1. cuts_after m z v.kept (k x c1) h1 u) w in absurd (omega (arith, b, e))
  within_same (Exec n c k) h u s (inl w) e = let b = v.stmt_cut n c h u w in absurd (omega (arith, b, e))
  within_same (Exec n c k) h u s (inr w) e = let b = rest_less h u (m.stmt n c h) (λ x c1 h1. cuts m z (k x c1) h1 u) (v.stmt n c h) (λ x c1 h1. cuts_after m z v.kept (k x c1) h1 u) w in absurd (omega (arith, b, e))
  within_same (Put bytes q) h u s w e = absurd s
  within_same (Within q f g) h u s (inl w) e = within_same q h u s.0 w e
  within_same (Within q f g) h u s (inr w) e = rest_same h u (run m q h) (λ x c1 h1. cuts m z (f x c1) h1 u) (λ x c1 h1. cuts m z (g x c1) h1 u) (run_after m v.kept.grows q h) (run_calm q h s.0) (λ x c1 h1. cuts_after m z v.kept (f x c1) h1 u) (λ x c1 h1. cuts_after m z v.kept (g x c1) h1 u) (λ x c1 h1. here_same h1 u (within_same (f x c1) h1 u (s.1 x c1))) (λ x c1 h1. here_same h1 u (within_same (g x c1) h1 u (s.2 x c1))) w e

  cuts_same : {A : Type 0} (q : Plan C E S A) (h u : Meter) → Quiet q → cuts m z q h u → u.steps ≡ h.steps → u.told ≡ h.told
  cuts_same q h u s = here_same h u (within_same q h u s)

below_enter : {C A : Type 0} (span : Span) (c : C) (h : Meter) (go : Meter → Outcome C A) → ((h1 : Meter) → After h1 (final (go h1))) → Below h.steps (enter span false c h go)
below_enter span c h go k = elim (cases_eq h.steps 0) [
  | inl n ↦ subst (Below h.steps) (sym (enter_none span false c h go n)) tt
  | inr y ↦ subst (Below h.steps) (sym (enter_some span false c h go y)) (below_after h.steps (record h { steps = h.steps - 1 }) (go (record h { steps = h.steps - 1 })) (k (record h { steps = h.steps - 1 })) (omega (arith, y)))
]

below_full : {C A : Type 0} (span : Span) (c : C) (h : Meter) (go : Meter → Outcome C A) → Below h.steps (enter span true c h go)
below_full span c h go = elim (cases_eq h.steps 0) [
  | inl n ↦ subst (Below h.steps) (sym (enter_none span true c h go n)) tt
  | inr y ↦ subst (Below h.steps) (sym (enter_some span true c h go y)) tt
]

cut_less : {C E S A : Type 0} (m : Meaning C E S) (z : Cutting C E S) (v : Kept m z) (q : Plan C E S A) (h u : Meter) → entered (h.steps == 0) (cuts m z q (record h { steps = h.steps - 1 }) u) → u.steps < h.steps
cut_less m z v q h u w =
    let p = was_entered h.steps (cuts m z q (record h { steps = h.steps - 1 }) u) w in
    let a = (cuts_after m z v q (record h { steps = h.steps - 1 }) u p.1).steps in
    let y : h.steps ≡ 0 → ⊥ = p.0 in
    omega (arith, a, y)

steps_down : {C E S : Type 0} (n : Nodes C E S) (d : ℕ) → Steps_down (meanings n d) (cuttings n d)
steps_down n zero = record {
  kept = kept n zero;
  expr = λ e c h. below_full (n.expr_at e) c h (λ h1. Halt (Faulted D12 (n.expr_at e)) c h1);
  stmt = λ t c h. below_full (n.stmt_at t) c h (λ h1. Halt (Faulted D12 (n.stmt_at t)) c h1);
  expr_cut = λ e c h u w. absurd w;
  stmt_cut = λ t c h u w. absurd w;
}
steps_down n (suc d) = record {
  kept = kept n (suc d);
  expr = λ e c h. below_enter (n.expr_at e) c h (run (meanings n d) (n.expr e c)) (run_after (meanings n d) (grows n d) (n.expr e c));
  stmt = λ t c h. below_enter (n.stmt_at t) c h (run (meanings n d) (n.stmt t c)) (run_after (meanings n d) (grows n d) (n.stmt t c));
  expr_cut = λ e c h u. cut_less (meanings n d) (cuttings n d) (kept n d) (n.expr e c) h u;
  stmt_cut = λ t c h u. cut_less (meanings n d) (cuttings n d) (kept n d) (n.stmt t c) h u;
}

-- the promise, of any program that is quiet
module _ {C E S A : Type 0} (n : Nodes C E S) (d : ℕ) (q : Plan C E S A) (h u : Meter) where
  split_at : (k j : ℕ) → h.steps ≡ k + j → cuts (meanings n d) (cuttings n d) q h u → cuts (meanings n d) (cuttings n d) q (record h { steps = k + j }) u
  split_at k j e w = subst (λ b. cuts (meanings n d) (cuttings n d) q (record h { steps = b }) u) e w

  above : (k : ℕ) → h.steps ≡ k + u.steps → cuts (meanings n d) (cuttings n d) q h u → Begins u.told (final (run (meanings n d) q (record h { steps = k }))).told
  above k e w = cuts_upper (meanings n d) (cuttings n d) (kept n d) q u.steps (record h { steps = k }) u (split_at k u.steps e w) refl

  below : (k : ℕ) → h.steps ≡ k + (u.steps + 1) → cuts (meanings n d) (cuttings n d) q h u → Begins (final (run (meanings n d) q (record h { steps = k }))).told u.told
  below k e w =
      let b = cuts_lower (meanings n d) (cuttings n d) (kept n d) q (u.steps + 1) (record h { steps = k }) u (split_at k (u.steps + 1) e w) (omega arith) in
      subst (λ r. Begins (final r).told u.told) (sym b.is) b.begins

  more : (k j : ℕ) → h.steps ≡ k + j → Begins (final (run (meanings n d) q (record h { steps = k }))).told (final (run (meanings n d) q h)).told
  more k j e = subst (λ b. Begins (final (run (meanings n d) q (record h { steps = k }))).told (final (run (meanings n d) q (record h { steps = b }))).told) (sym e) (low_told j _ _ (run_low (meanings n d) (grows n d) (lows n d) q j (record h { steps = k })))

  pub given_up : Quiet q → cuts (meanings n d) (cuttings n d) q h u → GivenUp (λ k. (final (run (meanings n d) q (record h { steps = k }))).told) h.told u.told h.steps (h.steps - u.steps)
  given_up s w =
      let a = (cuts_after (meanings n d) (cuttings n d) (kept n d) q h u w).steps in
      let b = above (h.steps - u.steps) (omega (arith, a)) w in
      record {
        whole = longer b (more (h.steps - u.steps) u.steps (omega (arith, a)));
        begins = b;
        last = λ w0. below (h.steps - u.steps - 1) (omega (arith, a, w0)) w;
        none = λ w0. cuts_same (meanings n d) (cuttings n d) (steps_down n d) q h u s w (omega (arith, a, w0));
      }

-- the promise of a run that is equal to another at each budget, as one over other trees
pub carried : (f g : ℕ → Option (List ℕ)) (old new : Option (List ℕ)) (all n : ℕ) → ((k : ℕ) → f k ≡ g k) → GivenUp f old new all n → GivenUp g old new all n
carried f g old new all n e w = record {
  whole = subst (Begins new) (e all) w.whole;
  begins = subst (Begins new) (e n) w.begins;
  last = λ p. subst (λ t. Begins t new) (e (n - 1)) (w.last p);
  none = w.none;
}
