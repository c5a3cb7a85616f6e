-- A run with fewer steps, and a run that was given up. By the shape of programs alone: no form of the language is named.
use Rattle.std.proofs.Common.{◌≡◌, ℕ, zero, suc, ◌+◌, ◌-◌, ◌==◌, ◌<◌, ◌≤◌, Bool, true, false, cond, ◌⊎◌, inl, inr, List, [], ◌∷◌, ◌++◌, Option, Some, None, refl, sym, ap, ◌∙◌, subst, arith}
use Rattle.std.proofs.lemmas.Bool.{cases_eq}
use Rattle.std.proofs.lemmas.Bool.Decides.{nat_tests}
use Rattle.asl_rules.specs.runs.Told.{appended, Begins, Part}
use Rattle.asl_rules.specs.runs.Plans.{Meter, End, Faulted, Outcome, Done, Thrown, Halt, final, Plan, Ret, Raise, Stop, Eval, Exec, Put, Within, Meaning, handle, run, wrote, enter, Nodes, meanings}
use Rattle.asl_syn.specs.declared.code.DynCode.TheVariants.{D12, D13}
use Rattle.asl_syn.specs.declared.token.Span.{Span}
use Rattle.asl_rules.specs.values.Values.{Value}
use Rattle.asl_rules.proofs.basics.Pieces.{appended_twice}

pub append_nil : (xs : List ℕ) → xs ++ [] ≡ xs
append_nil [] = refl
append_nil (x ∷ xs) = ap (λ l. x ∷ l) (append_nil xs)

pub appended_nil : (o : Option (List ℕ)) → appended o [] ≡ o
appended_nil None = refl
appended_nil (Some xs) = ap Some (append_nil xs)

pub same_text : (o : Option (List ℕ)) → Begins o o
same_text o = record { rest = []; is = sym (appended_nil o) }

pub longer : {a b c : Option (List ℕ)} → Begins a b → Begins b c → Begins a c
longer {a} h k = record { rest = h.rest ++ k.rest; is = k.is ∙ ap (λ o. appended o k.rest) h.is ∙ appended_twice a h.rest k.rest }

-- what was taken stands between
pub taken_after : (o p : Option (List ℕ)) (xs : List ℕ) → Part o p xs → Begins o p
taken_after o p xs h = record { rest = h.taken; is = h.is }

pub taken_before : (o p : Option (List ℕ)) (xs : List ℕ) → Part o p xs → Begins p (appended o xs)
taken_before o p xs h = record { rest = h.rest; is = ap (appended o) h.whole ∙ sym (appended_twice o h.taken h.rest) ∙ ap (λ q. appended q h.rest) (sym h.is) }

-- later in a run
pub record After (h u : Meter) : Type 0 where
  pub steps : u.steps ≤ h.steps
  pub told : Begins h.told u.told

pub self : (h : Meter) → After h h
self h = record { steps = omega arith; told = same_text h.told }

pub on : {h u w : Meter} → After h u → After u w → After h w
on a b = record { steps = omega (arith, a.steps, b.steps); told = longer a.told b.told }

pub put_after : (h : Meter) (bytes : List ℕ) → After h (wrote h bytes)
put_after h bytes = record { steps = omega arith; told = record { rest = bytes; is = refl } }

pub step_after : (h : Meter) → After h (record h { steps = h.steps - 1 })
step_after h = record { steps = omega arith; told = same_text h.told }

pub handle_after : {C A B : Type 0} {h : Meter} (r : Outcome C B) (f : B → C → Meter → Outcome C A) (g : Value → C → Meter → Outcome C A) → After h (final r) → ((x : B) (c : C) (h1 : Meter) → After h1 (final (f x c h1))) → ((x : Value) (c : C) (h1 : Meter) → After h1 (final (g x c h1))) → After h (final (handle r f g))
handle_after (Done x c h1) f g a kf kg = on a (kf x c h1)
handle_after (Thrown x c h1) f g a kf kg = on a (kg x c h1)
handle_after (Halt e c h1) f g a kf kg = a

pub record Grows {C E S : Type 0} (m : Meaning C E S) : Type 0 where
  pub expr : (e : E) (c : C) (h : Meter) → After h (final (m.expr e c h))
  pub stmt : (t : S) (c : C) (h : Meter) → After h (final (m.stmt t c h))

pub thrown_after : {C : Type 0} → (A : Type 0) (x : Value) (c : C) (h : Meter) → After h (final {A = A} (Thrown x c h))
thrown_after A x c h = self h

pub run_after : {C E S : Type 0} (m : Meaning C E S) → Grows m → {A : Type 0} (q : Plan C E S A) (h : Meter) → After h (final (run m q h))
run_after m w (Ret x c) h = self h
run_after m w (Raise x c) h = self h
run_after m w (Stop e c) h = self h
run_after m w {A = A} (Eval e c k) h = handle_after (m.expr e c h) (λ x c1 h1. run m (k x c1) h1) Thrown (w.expr e c h) (λ x c1 h1. run_after m w (k x c1) h1) (thrown_after A)
run_after m w {A = A} (Exec t c k) h = handle_after (m.stmt t c h) (λ x c1 h1. run m (k x c1) h1) Thrown (w.stmt t c h) (λ x c1 h1. run_after m w (k x c1) h1) (thrown_after A)
run_after m w (Put bytes q) h = on (put_after h bytes) (run_after m w q (wrote h bytes))
run_after m w (Within q f g) h = handle_after (run m q h) (λ x c1 h1. run m (f x c1) h1) (λ x c1 h1. run m (g x c1) h1) (run_after m w q h) (λ x c1 h1. run_after m w (f x c1) h1) (λ x c1 h1. run_after m w (g x c1) h1)

if_after : {C A : Type 0} {h : Meter} (b : Bool) (r s : Outcome C A) → After h (final r) → After h (final s) → After h (final (cond b r s))
if_after true r s a b = a
if_after false r s a b = b

enter_after : {C A : Type 0} (span : Span) (deep : Bool) (c : C) (h : Meter) (go : Meter → Outcome C A) → ((h1 : Meter) → After h1 (final (go h1))) → After h (final (enter span deep c h go))
enter_after span deep c h go k = if_after (h.steps == 0) (Halt (Faulted D13 span) c h) _ (self h) (if_after deep (Halt (Faulted D12 span) c h) _ (self h) (on (step_after h) (k (record h { steps = h.steps - 1 }))))

pub grows : {C E S : Type 0} (n : Nodes C E S) (d : ℕ) → Grows (meanings n d)
grows n zero = record {
  expr = λ e c h. enter_after (n.expr_at e) true c h (λ h1. Halt (Faulted D12 (n.expr_at e)) c h1) self;
  stmt = λ t c h. enter_after (n.stmt_at t) true c h (λ h1. Halt (Faulted D12 (n.stmt_at t)) c h1) self;
}
grows n (suc d) = record {
  expr = λ e c h. enter_after (n.expr_at e) false c h (run (meanings n d) (n.expr e c)) (run_after (meanings n d) (grows n d) (n.expr e c));
  stmt = λ t c h. enter_after (n.stmt_at t) false c h (run (meanings n d) (n.stmt t c)) (run_after (meanings n d) (grows n d) (n.stmt t c));
}

-- with j steps more
abbrev pub plus : ℕ → Meter → Meter
plus j h = record h { steps = h.steps + j }

abbrev pub up : {C A : Type 0} → ℕ → Outcome C A → Outcome C A
up j (Done x c h) = Done x c (plus j h)
up j (Thrown x c h) = Thrown x c (plus j h)
up j (Halt e c h) = Halt e c (plus j h)

-- where it goes on, it has less than j steps left
abbrev pub Below : {C A : Type 0} → ℕ → Outcome C A → Type 0
Below j (Done x c h) = h.steps < j
Below j (Thrown x c h) = h.steps < j
Below j (Halt e c h) = Unit {0}

-- it stops, with a text that begins this one
pub record Halts {C A : Type 0} (r : Outcome C A) (t : Option (List ℕ)) : Type 0 where
  pub why : End
  pub core : C
  pub meter : Meter
  pub is : r ≡ Halt why core meter
  pub begins : Begins meter.told t

pub record Short {C A : Type 0} (j : ℕ) (r s : Outcome C A) : Type 0 where
  pub below : Below j r
  pub halts : Halts s (final r).told

-- a run with j steps more, and one without them
abbrev pub Low : {C A : Type 0} → ℕ → Outcome C A → Outcome C A → Type 0
Low j r s = (r ≡ up j s) ⊎ Short j r s

pub halts_on : {C A B : Type 0} (r : Outcome C B) (f : B → C → Meter → Outcome C A) (g : Value → C → Meter → Outcome C A) {t u : Option (List ℕ)} → Halts r t → Begins t u → Halts (handle r f g) u
halts_on r f g h b = record { why = h.why; core = h.core; meter = h.meter; is = ap (λ x. handle x f g) h.is; begins = longer h.begins b }

pub below_after : {C A : Type 0} (j : ℕ) (h : Meter) (r : Outcome C A) → After h (final r) → h.steps < j → Below j r
below_after j h (Done x c h1) a b = omega (arith, a.steps, b)
below_after j h (Thrown x c h1) a b = omega (arith, a.steps, b)
below_after j h (Halt e c h1) a b = tt

below_handle : {C A B : Type 0} (j : ℕ) (r : Outcome C B) (f : B → C → Meter → Outcome C A) (g : Value → C → Meter → Outcome C A) → Below j r → ((x : B) (c : C) (h1 : Meter) → After h1 (final (f x c h1))) → ((x : Value) (c : C) (h1 : Meter) → After h1 (final (g x c h1))) → Below j (handle r f g)
below_handle j (Done x c h) f g b kf kg = below_after j h (f x c h) (kf x c h) b
below_handle j (Thrown x c h) f g b kf kg = below_after j h (g x c h) (kg x c h) b
below_handle j (Halt e c h) f g b kf kg = tt

low_up : {C A B : Type 0} (j : ℕ) (s : Outcome C B) (f : B → C → Meter → Outcome C A) (g : Value → C → Meter → Outcome C A) → ((x : B) (c : C) (h : Meter) → Low j (f x c (plus j h)) (f x c h)) → ((x : Value) (c : C) (h : Meter) → Low j (g x c (plus j h)) (g x c h)) → Low j (handle (up j s) f g) (handle s f g)
low_up j (Done x c h) f g kf kg = kf x c h
low_up j (Thrown x c h) f g kf kg = kg x c h
low_up j (Halt e c h) f g kf kg = inl refl

low_handle : {C A B : Type 0} (j : ℕ) (r s : Outcome C B) (f : B → C → Meter → Outcome C A) (g : Value → C → Meter → Outcome C A) → Low j r s → ((x : B) (c : C) (h : Meter) → Low j (f x c (plus j h)) (f x c h)) → ((x : Value) (c : C) (h : Meter) → Low j (g x c (plus j h)) (g x c h)) → ((x : B) (c : C) (h1 : Meter) → After h1 (final (f x c h1))) → ((x : Value) (c : C) (h1 : Meter) → After h1 (final (g x c h1))) → Low j (handle r f g) (handle s f g)
low_handle j r s f g (inl e) lf lg kf kg = subst (λ x. Low j (handle x f g) (handle s f g)) (sym e) (low_up j s f g lf lg)
low_handle j r s f g (inr q) lf lg kf kg = inr (record {
  below = below_handle j r f g q.below kf kg;
  halts = halts_on s f g q.halts (handle_after r f g (self (final r)) kf kg).told;
})

pub record Lows {C E S : Type 0} (m : Meaning C E S) : Type 0 where
  pub expr : (e : E) (c : C) (j : ℕ) (h : Meter) → Low j (m.expr e c (plus j h)) (m.expr e c h)
  pub stmt : (t : S) (c : C) (j : ℕ) (h : Meter) → Low j (m.stmt t c (plus j h)) (m.stmt t c h)

thrown_low : {C : Type 0} → (A : Type 0) (j : ℕ) (x : Value) (c : C) (h : Meter) → Low {A = A} j (Thrown x c (plus j h)) (Thrown x c h)
thrown_low A j x c h = inl refl

pub run_low : {C E S : Type 0} (m : Meaning C E S) → Grows m → Lows m → {A : Type 0} (q : Plan C E S A) (j : ℕ) (h : Meter) → Low j (run m q (plus j h)) (run m q h)
run_low m w l (Ret x c) j h = inl refl
run_low m w l (Raise x c) j h = inl refl
run_low m w l (Stop e c) j h = inl refl
run_low m w l {A = A} (Eval e c k) j h = low_handle j (m.expr e c (plus j h)) (m.expr e c h) (λ x c1 h1. run m (k x c1) h1) Thrown (l.expr e c j h) (λ x c1 h1. run_low m w l (k x c1) j h1) (thrown_low A j) (λ x c1 h1. run_after m w (k x c1) h1) (thrown_after A)
run_low m w l {A = A} (Exec t c k) j h = low_handle j (m.stmt t c (plus j h)) (m.stmt t c h) (λ x c1 h1. run m (k x c1) h1) Thrown (l.stmt t c j h) (λ x c1 h1. run_low m w l (k x c1) j h1) (thrown_low A j) (λ x c1 h1. run_after m w (k x c1) h1) (thrown_after A)
run_low m w l (Put bytes q) j h = run_low m w l q j (wrote h bytes)
run_low m w l (Within q f g) j h = low_handle j (run m q (plus j h)) (run m q h) (λ x c1 h1. run m (f x c1) h1) (λ x c1 h1. run m (g x c1) h1) (run_low m w l q j h) (λ x c1 h1. run_low m w l (f x c1) j h1) (λ x c1 h1. run_low m w l (g x c1) j h1) (λ x c1 h1. run_after m w (f x c1) h1) (λ x c1 h1. run_after m w (g x c1) h1)

-- the entry
pub is_zero : (n : ℕ) → n ≡ 0 → (n == 0) ≡ true
is_zero n e = grind (arith, nat_tests)

pub not_zero : (n : ℕ) → (n ≡ 0 → ⊥) → (n == 0) ≡ false
not_zero n e = grind (arith, nat_tests)

pub enter_none : {C A : Type 0} (span : Span) (deep : Bool) (c : C) (h : Meter) (go : Meter → Outcome C A) → h.steps ≡ 0 → enter span deep c h go ≡ Halt (Faulted D13 span) c h
enter_none span deep c h go e = ap (λ b. cond b (Halt (Faulted D13 span) c h) (cond deep (Halt (Faulted D12 span) c h) (go (record h { steps = h.steps - 1 })))) (is_zero h.steps e)

pub enter_some : {C A : Type 0} (span : Span) (deep : Bool) (c : C) (h : Meter) (go : Meter → Outcome C A) → (h.steps ≡ 0 → ⊥) → enter span deep c h go ≡ cond deep (Halt (Faulted D12 span) c h) (go (record h { steps = h.steps - 1 }))
enter_some span deep c h go e = ap (λ b. cond b (Halt (Faulted D13 span) c h) (cond deep (Halt (Faulted D12 span) c h) (go (record h { steps = h.steps - 1 })))) (not_zero h.steps e)

below_deep : {C A : Type 0} (j : ℕ) (span : Span) (deep : Bool) (c : C) (h h1 : Meter) (go : Meter → Outcome C A) → ((h2 : Meter) → After h2 (final (go h2))) → h1.steps < j → Below j (cond deep (Halt (Faulted D12 span) c h) (go h1))
below_deep j span true c h h1 go k b = tt
below_deep j span false c h h1 go k b = below_after j h1 (go h1) (k h1) b

low_deep : {C A : Type 0} (j : ℕ) (span : Span) (deep : Bool) (c : C) (h h1 : Meter) (go : Meter → Outcome C A) → Low j (go (plus j h1)) (go h1) → Low j (cond deep (Halt (Faulted D12 span) c (plus j h)) (go (plus j h1))) (cond deep (Halt (Faulted D12 span) c h) (go h1))
low_deep j span true c h h1 go k = inl refl
low_deep j span false c h h1 go k = k

pub one_less : (j : ℕ) (h : Meter) → (h.steps ≡ 0 → ⊥) → record (plus j h) { steps = h.steps + j - 1 } ≡ plus j (record h { steps = h.steps - 1 })
one_less j h e = ap (λ n. record h { steps = n }) (let q : h.steps + j - 1 ≡ h.steps - 1 + j = omega (arith, e) in q)

enter_low : {C A : Type 0} (span : Span) (deep : Bool) (c : C) (j : ℕ) (h : Meter) (go : Meter → Outcome C A) → ((h1 : Meter) → After h1 (final (go h1))) → ((h1 : Meter) → Low j (go (plus j h1)) (go h1)) → Low j (enter span deep c (plus j h) go) (enter span deep c h go)
enter_low {A} span deep c j h go k l = elim (cases_eq h.steps 0) [
  | inl z ↦ elim (cases_eq j 0) [
    | inl y ↦ inl (enter_none span deep c (plus j h) go (omega (arith, z, y)) ∙ sym (ap (up j) (enter_none span deep c h go z)))
    | inr y ↦ inr (record {
      below = subst (Below j) (sym (enter_some span deep c (plus j h) go (λ q. y (omega (arith, q))))) (below_deep j span deep c (plus j h) (record (plus j h) { steps = h.steps + j - 1 }) go k (omega (arith, z, y)));
      halts = record { why = Faulted D13 span; core = c; meter = h; is = enter_none span deep c h go z; begins = (enter_after span deep c (plus j h) go k).told };
    })
  ]
  | inr y ↦
      subst (λ r. Low j r (enter span deep c h go)) (sym (enter_some span deep c (plus j h) go (λ q. y (omega (arith, q)))))
      (subst (λ s. Low j (cond deep (Halt (Faulted D12 span) c (plus j h)) (go (record (plus j h) { steps = h.steps + j - 1 }))) s) (sym (enter_some span deep c h go y))
      (subst (λ h1. Low j (cond deep (Halt (Faulted D12 span) c (plus j h)) (go h1)) (cond deep (Halt (Faulted D12 span) c h) (go (record h { steps = h.steps - 1 })))) (sym (one_less j h y))
      (low_deep j span deep c h (record h { steps = h.steps - 1 }) go (l (record h { steps = h.steps - 1 })))))
]

pub lows : {C E S : Type 0} (n : Nodes C E S) (d : ℕ) → Lows (meanings n d)
lows n zero = record {
  expr = λ e c j h. enter_low (n.expr_at e) true c j h (λ h1. Halt (Faulted D12 (n.expr_at e)) c h1) self (λ h1. inl refl);
  stmt = λ t c j h. enter_low (n.stmt_at t) true c j h (λ h1. Halt (Faulted D12 (n.stmt_at t)) c h1) self (λ h1. inl refl);
}
lows n (suc d) = record {
  expr = λ e c j h. enter_low (n.expr_at e) false c j h (run (meanings n d) (n.expr e c)) (run_after (meanings n d) (grows n d) (n.expr e c)) (run_low (meanings n d) (grows n d) (lows n d) (n.expr e c) j);
  stmt = λ t c j h. enter_low (n.stmt_at t) false c j h (run (meanings n d) (n.stmt t c)) (run_after (meanings n d) (grows n d) (n.stmt t c)) (run_low (meanings n d) (grows n d) (lows n d) (n.stmt t c) j);
}

-- with more steps the text goes at least as far
up_told : {C A : Type 0} (j : ℕ) (s : Outcome C A) → (final (up j s)).told ≡ (final s).told
up_told j (Done x c h) = refl
up_told j (Thrown x c h) = refl
up_told j (Halt e c h) = refl

pub low_told : {C A : Type 0} (j : ℕ) (r s : Outcome C A) → Low j r s → Begins (final s).told (final r).told
low_told j r s (inl e) = subst (λ t. Begins (final s).told t) (sym (ap (λ x. (final x).told) e ∙ up_told j s)) (same_text (final s).told)
low_told j r s (inr l) = subst (λ x. Begins (final x).told (final r).told) (sym l.halts.is) l.halts.begins
