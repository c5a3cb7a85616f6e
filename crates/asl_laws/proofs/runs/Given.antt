-- A run that was given up stands between two runs with fewer steps. By the shape of programs alone.
use Rattle.std.proofs.Common.{◌≡◌, ℕ, zero, suc, ◌+◌, ◌-◌, ◌==◌, ◌<◌, false, ◌⊎◌, inl, inr, sym, ap, subst, arith}
use Rattle.std.proofs.lemmas.Bool.{cases_eq}
use Rattle.asl_rules.specs.runs.Told.{Begins}
use Rattle.asl_rules.specs.runs.Plans.{Meter, Faulted, Outcome, Done, Thrown, Halt, final, Plan, Ret, Raise, Stop, Eval, Exec, Put, Within, Meaning, handle, run, wrote, enter, Nodes, meanings}
use Rattle.asl_rules.specs.runs.Cuts.{Cutting, rest, within, cuts, cuttings, entered}
use Rattle.asl_syn.specs.declared.code.DynCode.TheVariants.{D13}
use Rattle.asl_syn.specs.declared.token.Span.{Span}
use Rattle.asl_rules.specs.values.Values.{Value}
use Rattle.asl_laws.proofs.runs.Budget.{same_text, longer, taken_after, taken_before, After, self, on, put_after, step_after, handle_after, thrown_after, Grows, run_after, grows, plus, up, Below, Halts, Low, halts_on, Lows, run_low, lows, is_zero, not_zero, enter_none, enter_some, one_less}

here_or : {W : Type 0} (h u : Meter) → (W → After h u) → (u ≡ h) ⊎ W → After h u
here_or h u f (inl e) = subst (λ k. After h k) (sym e) (self h)
here_or h u f (inr w) = f w

rest_after : {C B : Type 0} (h u : Meter) (r : Outcome C B) (F : B → C → Meter → Type 0) (G : Value → C → Meter → Type 0) → After h (final r) → ((x : B) (c : C) (h1 : Meter) → F x c h1 → After h1 u) → ((x : Value) (c : C) (h1 : Meter) → G x c h1 → After h1 u) → rest r F G → After h u
rest_after h u (Done x c h1) F G a kf kg w = on a (kf x c h1 w)
rest_after h u (Thrown x c h1) F G a kf kg w = on a (kg x c h1 w)
rest_after h u (Halt e c h1) F G a kf kg w = absurd w

never : {C : Type 0} → (u : Meter) (x : Value) (c : C) (h1 : Meter) → ⊥ → After h1 u
never u x c h1 w = absurd w

-- what the nodes below, given up, keep to
pub record Kept {C E S : Type 0} (m : Meaning C E S) (z : Cutting C E S) : Type 0 where
  pub grows : Grows m
  pub lows : Lows m
  pub expr_after : (e : E) (c : C) (h u : Meter) → z.expr e c h u → After h u
  pub stmt_after : (t : S) (c : C) (h u : Meter) → z.stmt t c h u → After h u
  pub expr_upper : (e : E) (c : C) (j : ℕ) (h u : Meter) → z.expr e c (plus j h) u → u.steps ≡ j → Begins u.told (final (m.expr e c h)).told
  pub stmt_upper : (t : S) (c : C) (j : ℕ) (h u : Meter) → z.stmt t c (plus j h) u → u.steps ≡ j → Begins u.told (final (m.stmt t c h)).told
  pub expr_lower : (e : E) (c : C) (j : ℕ) (h u : Meter) → z.expr e c (plus j h) u → u.steps < j → Halts (m.expr e c h) u.told
  pub stmt_lower : (t : S) (c : C) (j : ℕ) (h u : Meter) → z.stmt t c (plus j h) u → u.steps < j → Halts (m.stmt t c h) u.told

within_after : {C E S : Type 0} (m : Meaning C E S) (z : Cutting C E S) → Kept m z → {A : Type 0} (q : Plan C E S A) (h u : Meter) → within m z q h u → After h u
within_after m z v (Ret x c) h u w = absurd w
within_after m z v (Raise x c) h u w = absurd w
within_after m z v (Stop e c) h u w = absurd w
within_after m z v (Eval e c k) h u (inl w) = v.expr_after e c h u w
within_after m z v (Eval e c k) h u (inr w) = rest_after h u (m.expr e c h) (λ x c1 h1. cuts m z (k x c1) h1 u) (λ x c1 h1. ⊥) (v.grows.expr e c h) (λ x c1 h1. here_or h1 u (within_after m z v (k x c1) h1 u)) (never u) w
within_after m z v (Exec t c k) h u (inl w) = v.stmt_after t c h u w
within_after m z v (Exec t c k) h u (inr w) = rest_after h u (m.stmt t c h) (λ x c1 h1. cuts m z (k x c1) h1 u) (λ x c1 h1. ⊥) (v.grows.stmt t c h) (λ x c1 h1. here_or h1 u (within_after m z v (k x c1) h1 u)) (never u) w
within_after m z v (Put bytes q) h u (inl w) = record { steps = omega (arith, w.0); told = taken_after h.told u.told bytes w.1 }
within_after m z v (Put bytes q) h u (inr w) = on (put_after h bytes) (within_after m z v q (wrote h bytes) u w)
within_after m z v (Within q f g) h u (inl w) = within_after m z v q h u w
within_after m z v (Within q f g) h u (inr w) = rest_after h u (run m q h) (λ x c1 h1. cuts m z (f x c1) h1 u) (λ x c1 h1. cuts m z (g x c1) h1 u) (run_after m v.grows q h) (λ x c1 h1. here_or h1 u (within_after m z v (f x c1) h1 u)) (λ x c1 h1. here_or h1 u (within_after m z v (g x c1) h1 u)) w

pub cuts_after : {C E S : Type 0} (m : Meaning C E S) (z : Cutting C E S) → Kept m z → {A : Type 0} (q : Plan C E S A) (h u : Meter) → cuts m z q h u → After h u
cuts_after m z v q h u = here_or h u (within_after m z v q h u)

-- above: with no more steps than were used, the text goes at least as far
here_upper : {C A W : Type 0} (j : ℕ) (h u : Meter) (r : Outcome C A) → After h (final r) → (W → u.steps ≡ j → Begins u.told (final r).told) → (u ≡ plus j h) ⊎ W → u.steps ≡ j → Begins u.told (final r).told
here_upper j h u r a f (inl e) q = subst (λ k. Begins k.told (final r).told) (sym e) a.told
here_upper j h u r a f (inr w) q = f w q

upper_up : {C A B : Type 0} (j : ℕ) (u : Meter) (s : Outcome C B) (F : B → C → Meter → Type 0) (G : Value → C → Meter → Type 0) (f : B → C → Meter → Outcome C A) (g : Value → C → Meter → Outcome C A) → ((x : B) (c : C) (h1 : Meter) → F x c (plus j h1) → Begins u.told (final (f x c h1)).told) → ((x : Value) (c : C) (h1 : Meter) → G x c (plus j h1) → Begins u.told (final (g x c h1)).told) → rest (up j s) F G → Begins u.told (final (handle s f g)).told
upper_up j u (Done x c h1) F G f g kf kg w = kf x c h1 w
upper_up j u (Thrown x c h1) F G f g kf kg w = kg x c h1 w
upper_up j u (Halt e c h1) F G f g kf kg w = absurd w

rest_below : {C B : Type 0} (j : ℕ) (u : Meter) (r : Outcome C B) (F : B → C → Meter → Type 0) (G : Value → C → Meter → Type 0) → ((x : B) (c : C) (h1 : Meter) → F x c h1 → After h1 u) → ((x : Value) (c : C) (h1 : Meter) → G x c h1 → After h1 u) → Below j r → rest r F G → u.steps < j
rest_below j u (Done x c h1) F G kf kg b w = let a = kf x c h1 w in omega (arith, b, a.steps)
rest_below j u (Thrown x c h1) F G kf kg b w = let a = kg x c h1 w in omega (arith, b, a.steps)
rest_below j u (Halt e c h1) F G kf kg b w = absurd w

rest_upper : {C A B : Type 0} (j : ℕ) (u : Meter) (r s : Outcome C B) (F : B → C → Meter → Type 0) (G : Value → C → Meter → Type 0) (f : B → C → Meter → Outcome C A) (g : Value → C → Meter → Outcome C A) → Low j r s → ((x : B) (c : C) (h1 : Meter) → F x c h1 → After h1 u) → ((x : Value) (c : C) (h1 : Meter) → G x c h1 → After h1 u) → ((x : B) (c : C) (h1 : Meter) → F x c (plus j h1) → Begins u.told (final (f x c h1)).told) → ((x : Value) (c : C) (h1 : Meter) → G x c (plus j h1) → Begins u.told (final (g x c h1)).told) → rest r F G → u.steps ≡ j → Begins u.told (final (handle s f g)).told
rest_upper j u r s F G f g (inl e) af ag kf kg w q = upper_up j u s F G f g kf kg (subst (λ x. rest x F G) e w)
rest_upper j u r s F G f g (inr l) af ag kf kg w q = let b = rest_below j u r F G af ag l.below w in absurd (omega (arith, b, q))

module _ {C E S : Type 0} (m : Meaning C E S) (z : Cutting C E S) (v : Kept m z) where
  within_upper : {A : Type 0} (q : Plan C E S A) (j : ℕ) (h u : Meter) → within m z q (plus j h) u → u.steps ≡ j → Begins u.told (final (run m q h)).told
  within_upper (Ret x c) j h u w e = absurd w
  within_upper (Raise x c) j h u w e = absurd w
  within_upper (Stop n c) j h u w e = absurd w
  within_upper {A = A} (Eval n c k) j h u (inl w) e = longer (v.expr_upper n c j h u w e) (handle_after (m.expr n c h) (λ x c1 h1. run m (k x c1) h1) Thrown (self (final (m.expr n c h))) (λ x c1 h1. run_after m v.grows (k x c1) h1) (thrown_after A)).told
  within_upper (Eval n c k) j h u (inr w) e = rest_upper j u (m.expr n c (plus j h)) (m.expr n c h) (λ x c1 h1. cuts m z (k x c1) h1 u) (λ x c1 h1. ⊥) (λ x c1 h1. run m (k x c1) h1) Thrown (v.lows.expr n c j h) (λ x c1 h1. cuts_after m z v (k x c1) h1 u) (never u) (λ x c1 h1 a. here_upper j h1 u (run m (k x c1) h1) (run_after m v.grows (k x c1) h1) (within_upper (k x c1) j h1 u) a e) (λ x c1 h1 a. absurd a) w e
  within_upper {A = A} (Exec n c k) j h u (inl w) e = longer (v.stmt_upper n c j h u w e) (handle_after (m.stmt n c h) (λ x c1 h1. run m (k x c1) h1) Thrown (self (final (m.stmt n c h))) (λ x c1 h1. run_after m v.grows (k x c1) h1) (thrown_after A)).told
  within_upper (Exec n c k) j h u (inr w) e = rest_upper j u (m.stmt n c (plus j h)) (m.stmt n c h) (λ x c1 h1. cuts m z (k x c1) h1 u) (λ x c1 h1. ⊥) (λ x c1 h1. run m (k x c1) h1) Thrown (v.lows.stmt n c j h) (λ x c1 h1. cuts_after m z v (k x c1) h1 u) (never u) (λ x c1 h1 a. here_upper j h1 u (run m (k x c1) h1) (run_after m v.grows (k x c1) h1) (within_upper (k x c1) j h1 u) a e) (λ x c1 h1 a. absurd a) w e
  within_upper (Put bytes q) j h u (inl w) e = longer (taken_before h.told u.told bytes w.1) (run_after m v.grows q (wrote h bytes)).told
  within_upper (Put bytes q) j h u (inr w) e = within_upper q j (wrote h bytes) u w e
  within_upper (Within q f g) j h u (inl w) e = longer (within_upper q j h u w e) (handle_after (run m q h) (λ x c1 h1. run m (f x c1) h1) (λ x c1 h1. run m (g x c1) h1) (self (final (run m q h))) (λ x c1 h1. run_after m v.grows (f x c1) h1) (λ x c1 h1. run_after m v.grows (g x c1) h1)).told
  within_upper (Within q f g) j h u (inr w) e = rest_upper j u (run m q (plus j h)) (run m q h) (λ x c1 h1. cuts m z (f x c1) h1 u) (λ x c1 h1. cuts m z (g x c1) h1 u) (λ x c1 h1. run m (f x c1) h1) (λ x c1 h1. run m (g x c1) h1) (run_low m v.grows v.lows q j h) (λ x c1 h1. cuts_after m z v (f x c1) h1 u) (λ x c1 h1. cuts_after m z v (g x c1) h1 u) (λ x c1 h1 a. here_upper j h1 u (run m (f x c1) h1) (run_after m v.grows (f x c1) h1) (within_upper (f x c1) j h1 u) a e) (λ x c1 h1 a. here_upper j h1 u (run m (g x c1) h1) (run_after m v.grows (g x c1) h1) (within_upper (g x c1) j h1 u) a e) w e

  pub cuts_upper : {A : Type 0} (q : Plan C E S A) (j : ℕ) (h u : Meter) → cuts m z q (plus j h) u → u.steps ≡ j → Begins u.told (final (run m q h)).told
  cuts_upper q j h u = here_upper j h u (run m q h) (run_after m v.grows q h) (within_upper q j h u)

-- below: with less steps, it stops, with a text that begins what was written
here_lower : {C A W : Type 0} (j : ℕ) (h u : Meter) (r : Outcome C A) → (W → u.steps < j → Halts r u.told) → (u ≡ plus j h) ⊎ W → u.steps < j → Halts r u.told
here_lower j h u r f (inl e) q = let p : u.steps ≡ h.steps + j = ap (λ k. k.steps) e in absurd (omega (arith, p, q))
here_lower j h u r f (inr w) q = f w q

lower_up : {C A B : Type 0} (j : ℕ) (u : Meter) (s : Outcome C B) (F : B → C → Meter → Type 0) (G : Value → C → Meter → Type 0) (f : B → C → Meter → Outcome C A) (g : Value → C → Meter → Outcome C A) → ((x : B) (c : C) (h1 : Meter) → F x c (plus j h1) → Halts (f x c h1) u.told) → ((x : Value) (c : C) (h1 : Meter) → G x c (plus j h1) → Halts (g x c h1) u.told) → rest (up j s) F G → Halts (handle s f g) u.told
lower_up j u (Done x c h1) F G f g kf kg w = kf x c h1 w
lower_up j u (Thrown x c h1) F G f g kf kg w = kg x c h1 w
lower_up j u (Halt e c h1) F G f g kf kg w = absurd w

rest_told : {C B : Type 0} (u : Meter) (r : Outcome C B) (F : B → C → Meter → Type 0) (G : Value → C → Meter → Type 0) → ((x : B) (c : C) (h1 : Meter) → F x c h1 → After h1 u) → ((x : Value) (c : C) (h1 : Meter) → G x c h1 → After h1 u) → rest r F G → Begins (final r).told u.told
rest_told u (Done x c h1) F G kf kg w = (kf x c h1 w).told
rest_told u (Thrown x c h1) F G kf kg w = (kg x c h1 w).told
rest_told u (Halt e c h1) F G kf kg w = absurd w

rest_lower : {C A B : Type 0} (j : ℕ) (u : Meter) (r s : Outcome C B) (F : B → C → Meter → Type 0) (G : Value → C → Meter → Type 0) (f : B → C → Meter → Outcome C A) (g : Value → C → Meter → Outcome C A) → Low j r s → ((x : B) (c : C) (h1 : Meter) → F x c h1 → After h1 u) → ((x : Value) (c : C) (h1 : Meter) → G x c h1 → After h1 u) → ((x : B) (c : C) (h1 : Meter) → F x c (plus j h1) → Halts (f x c h1) u.told) → ((x : Value) (c : C) (h1 : Meter) → G x c (plus j h1) → Halts (g x c h1) u.told) → rest r F G → Halts (handle s f g) u.told
rest_lower j u r s F G f g (inl e) af ag kf kg w = lower_up j u s F G f g kf kg (subst (λ x. rest x F G) e w)
rest_lower j u r s F G f g (inr l) af ag kf kg w = halts_on s f g l.halts (rest_told u r F G af ag w)

module _ {C E S : Type 0} (m : Meaning C E S) (z : Cutting C E S) (v : Kept m z) where
  within_lower : {A : Type 0} (q : Plan C E S A) (j : ℕ) (h u : Meter) → within m z q (plus j h) u → u.steps < j → Halts (run m q h) u.told
  within_lower (Ret x c) j h u w e = absurd w
  within_lower (Raise x c) j h u w e = absurd w
  within_lower (Stop n c) j h u w e = absurd w
  within_lower (Eval n c k) j h u (inl w) e = halts_on (m.expr n c h) (λ x c1 h1. run m (k x c1) h1) Thrown (v.expr_lower n c j h u w e) (same_text u.told)
  within_lower (Eval n c k) j h u (inr w) e = rest_lower j u (m.expr n c (plus j h)) (m.expr n c h) (λ x c1 h1. cuts m z (k x c1) h1 u) (λ x c1 h1. ⊥) (λ x c1 h1. run m (k x c1) h1) Thrown (v.lows.expr n c j h) (λ x c1 h1. cuts_after m z v (k x c1) h1 u) (never u) (λ x c1 h1 a. here_lower j h1 u (run m (k x c1) h1) (within_lower (k x c1) j h1 u) a e) (λ x c1 h1 a. absurd a) w
  within_lower (Exec n c k) j h u (inl w) e = halts_on (m.stmt n c h) (λ x c1 h1. run m (k x c1) h1) Thrown (v.stmt_lower n c j h u w e) (same_text u.told)
  within_lower (Exec n c k) j h u (inr w) e = rest_lower j u (m.stmt n c (plus j h)) (m.stmt n c h) (λ x c1 h1. cuts m z (k x c1) h1 u) (λ x c1 h1. ⊥) (λ x c1 h1. run m (k x c1) h1) Thrown (v.lows.stmt n c j h) (λ x c1 h1. cuts_after m z v (k x c1) h1 u) (never u) (λ x c1 h1 a. here_lower j h1 u (run m (k x c1) h1) (within_lower (k x c1) j h1 u) a e) (λ x c1 h1 a. absurd a) w
  within_lower (Put bytes q) j h u (inl w) e = let p : u.steps ≡ h.steps + j = w.0 in absurd (omega (arith, p, e))
  within_lower (Put bytes q) j h u (inr w) e = within_lower q j (wrote h bytes) u w e
  within_lower (Within q f g) j h u (inl w) e = halts_on (run m q h) (λ x c1 h1. run m (f x c1) h1) (λ x c1 h1. run m (g x c1) h1) (within_lower q j h u w e) (same_text u.told)
  within_lower (Within q f g) j h u (inr w) e = rest_lower j u (run m q (plus j h)) (run m q h) (λ x c1 h1. cuts m z (f x c1) h1 u) (λ x c1 h1. cuts m z (g x c1) h1 u) (λ x c1 h1. run m (f x c1) h1) (λ x c1 h1. run m (g x c1) h1) (run_low m v.grows v.lows q j h) (λ x c1 h1. cuts_after m z v (f x c1) h1 u) (λ x c1 h1. cuts_after m z v (g x c1) h1 u) (λ x c1 h1 a. here_lower j h1 u (run m (f x c1) h1) (within_lower (f x c1) j h1 u) a e) (λ x c1 h1 a. here_lower j h1 u (run m (g x c1) h1) (within_lower (g x c1) j h1 u) a e) w

  pub cuts_lower : {A : Type 0} (q : Plan C E S A) (j : ℕ) (h u : Meter) → cuts m z q (plus j h) u → u.steps < j → Halts (run m q h) u.told
  cuts_lower q j h u = here_lower j h u (run m q h) (within_lower q j h u)

-- a node
pub was_entered : (n : ℕ) (P : Type 0) → entered (n == 0) P → (n ≡ 0 → ⊥) × P
was_entered n P w = elim (cases_eq n 0) [
  | inl z ↦ absurd (subst (λ b. entered b P) (is_zero n z) w)
  | inr y ↦ (y, subst (λ b. entered b P) (not_zero n y) w)
]

module _ {C E S : Type 0} (m : Meaning C E S) (z : Cutting C E S) (v : Kept m z) where
  node_after : {A : Type 0} (q : Plan C E S A) (h u : Meter) → entered (h.steps == 0) (cuts m z q (record h { steps = h.steps - 1 }) u) → After h u
  node_after q h u w = on (step_after h) (cuts_after m z v q (record h { steps = h.steps - 1 }) u (was_entered h.steps (cuts m z q (record h { steps = h.steps - 1 }) u) w).1)

  node_upper : {A : Type 0} (span : Span) (q : Plan C E S A) (c : C) (j : ℕ) (h u : Meter) → entered (h.steps + j == 0) (cuts m z q (record (plus j h) { steps = h.steps + j - 1 }) u) → u.steps ≡ j → Begins u.told (final (enter span false c h (run m q))).told
  node_upper span q c j h u w e =
      let p = was_entered (h.steps + j) (cuts m z q (record (plus j h) { steps = h.steps + j - 1 }) u) w in
      elim (cases_eq h.steps 0) [
        | inl n ↦ let a = (cuts_after m z v q (record (plus j h) { steps = h.steps + j - 1 }) u p.1).steps in
            let s : h.steps + j ≡ 0 → ⊥ = p.0 in absurd (omega (arith, n, a, e, s))
        | inr y ↦ subst (λ r. Begins u.told (final r).told) (sym (enter_some span false c h (run m q) y)) (cuts_upper m z v q j (record h { steps = h.steps - 1 }) u (subst (λ k. cuts m z q k u) (one_less j h y) p.1) e)
      ]

  node_lower : {A : Type 0} (span : Span) (q : Plan C E S A) (c : C) (j : ℕ) (h u : Meter) → entered (h.steps + j == 0) (cuts m z q (record (plus j h) { steps = h.steps + j - 1 }) u) → u.steps < j → Halts (enter span false c h (run m q)) u.told
  node_lower span q c j h u w e =
      let p = was_entered (h.steps + j) (cuts m z q (record (plus j h) { steps = h.steps + j - 1 }) u) w in
      elim (cases_eq h.steps 0) [
        | inl n ↦ record { why = Faulted D13 span; core = c; meter = h; is = enter_none span false c h (run m q) n; begins = (cuts_after m z v q (record (plus j h) { steps = h.steps + j - 1 }) u p.1).told }
        | inr y ↦ subst (λ r. Halts r u.told) (sym (enter_some span false c h (run m q) y)) (cuts_lower m z v q j (record h { steps = h.steps - 1 }) u (subst (λ k. cuts m z q k u) (one_less j h y) p.1) e)
      ]

pub kept : {C E S : Type 0} (n : Nodes C E S) (d : ℕ) → Kept (meanings n d) (cuttings n d)
kept n zero = record {
  grows = grows n zero;
  lows = lows n zero;
  expr_after = λ e c h u w. absurd w;
  stmt_after = λ t c h u w. absurd w;
  expr_upper = λ e c j h u w q. absurd w;
  stmt_upper = λ t c j h u w q. absurd w;
  expr_lower = λ e c j h u w q. absurd w;
  stmt_lower = λ t c j h u w q. absurd w;
}
kept n (suc d) =
    let m = meanings n d in
    let z = cuttings n d in
    let v = kept n d in
    record {
      grows = grows n (suc d);
      lows = lows n (suc d);
      expr_after = λ e c h u. node_after m z v (n.expr e c) h u;
      stmt_after = λ t c h u. node_after m z v (n.stmt t c) h u;
      expr_upper = λ e c j h u. node_upper m z v (n.expr_at e) (n.expr e c) c j h u;
      stmt_upper = λ t c j h u. node_upper m z v (n.stmt_at t) (n.stmt t c) c j h u;
      expr_lower = λ e c j h u. node_lower m z v (n.expr_at e) (n.expr e c) c j h u;
      stmt_lower = λ t c j h u. node_lower m z v (n.stmt_at t) (n.stmt t c) c j h u;
    }
