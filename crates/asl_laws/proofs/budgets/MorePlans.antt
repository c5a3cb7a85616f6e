-- A plan with more steps ends in the same way, unless it ended for want of steps. By the shape of plans alone: no form of the language is named.
use Rattle.std.proofs.Common.{ℕ, zero, suc, ◌+◌, ◌-◌, Bool, true, false, cond, inl, inr, List, Option, refl, sym, subst, arith}
use Rattle.std.proofs.lemmas.Bool.{cases_eq}
use Rattle.asl_syn.specs.declared.code.DynCode.TheVariants.{D12}
use Rattle.asl_syn.specs.declared.token.Span.{Span}
use Rattle.asl_rules.specs.runs.Told.{Begins}
use Rattle.asl_rules.specs.values.Values.{Value}
use Rattle.asl_rules.specs.runs.Plans.{Meter, Faulted, Stuck, Outcome, Done, Thrown, Halt, final, Plan, Ret, Raise, Stop, Eval, Exec, Put, Within, Meaning, handle, run, wrote, enter, Nodes, meanings}
use Rattle.asl_laws.proofs.runs.Budget.{longer, After, self, handle_after, thrown_after, Grows, run_after, grows, enter_none, enter_some, one_less}
use Rattle.asl_laws.specs.Budgets.{with_more, with_more_left, Spent, SameWithMore}

-- ---- a part, and what comes behind it

-- nothing comes behind what ended for want of steps
spent_on : {C A B : Type 0} (s : Outcome C B) (f : B → C → Meter → Outcome C A) (g : Value → C → Meter → Outcome C A) (t : Option (List ℕ)) → Spent s → Begins (final s).told t → Spent (handle s f g) × Begins (final (handle s f g)).told t
spent_on (Done x c h) f g t p b = absurd p
spent_on (Thrown x c h) f g t p b = absurd p
spent_on (Halt (Stuck mistake span) c h) f g t p b = absurd p
spent_on (Halt (Faulted code span) c h) f g t p b = (p, b)

same_on : {C A B : Type 0} (k : ℕ) (s : Outcome C B) (f : B → C → Meter → Outcome C A) (g : Value → C → Meter → Outcome C A) → ((x : B) (c : C) (h : Meter) → SameWithMore k (f x c (with_more k h)) (f x c h)) → ((x : Value) (c : C) (h : Meter) → SameWithMore k (g x c (with_more k h)) (g x c h)) → SameWithMore k (handle (with_more_left k s) f g) (handle s f g)
same_on k (Done x c h) f g mf mg = mf x c h
same_on k (Thrown x c h) f g mf mg = mg x c h
same_on k (Halt e c h) f g mf mg = inl refl

handle_more : {C A B : Type 0} (k : ℕ) (r s : Outcome C B) (f : B → C → Meter → Outcome C A) (g : Value → C → Meter → Outcome C A) → SameWithMore k r s → ((x : B) (c : C) (h : Meter) → SameWithMore k (f x c (with_more k h)) (f x c h)) → ((x : Value) (c : C) (h : Meter) → SameWithMore k (g x c (with_more k h)) (g x c h)) → ((x : B) (c : C) (h1 : Meter) → After h1 (final (f x c h1))) → ((x : Value) (c : C) (h1 : Meter) → After h1 (final (g x c h1))) → SameWithMore k (handle r f g) (handle s f g)
handle_more k r s f g (inl e) mf mg af ag = subst (λ x. SameWithMore k (handle x f g) (handle s f g)) (sym e) (same_on k s f g mf mg)
handle_more k r s f g (inr q) mf mg af ag = inr (spent_on s f g (final (handle r f g)).told q.0 (longer q.1 (handle_after r f g (self (final r)) af ag).told))

-- ---- plans

pub record Mores {C E S : Type 0} (m : Meaning C E S) : Type 0 where
  pub expr : (e : E) (c : C) (k : ℕ) (h : Meter) → SameWithMore k (m.expr e c (with_more k h)) (m.expr e c h)
  pub stmt : (t : S) (c : C) (k : ℕ) (h : Meter) → SameWithMore k (m.stmt t c (with_more k h)) (m.stmt t c h)

thrown_more : {C : Type 0} → (A : Type 0) (k : ℕ) (x : Value) (c : C) (h : Meter) → SameWithMore {A = A} k (Thrown x c (with_more k h)) (Thrown x c h)
thrown_more A k x c h = inl refl

pub run_more : {C E S : Type 0} (m : Meaning C E S) → Grows m → Mores m → {A : Type 0} (q : Plan C E S A) (k : ℕ) (h : Meter) → SameWithMore k (run m q (with_more k h)) (run m q h)
run_more m w l (Ret x c) k h = inl refl
run_more m w l (Raise x c) k h = inl refl
run_more m w l (Stop e c) k h = inl refl
run_more m w l {A = A} (Eval e c f) k h = handle_more k (m.expr e c (with_more k h)) (m.expr e c h) (λ x c1 h1. run m (f x c1) h1) Thrown (l.expr e c k h) (λ x c1 h1. run_more m w l (f x c1) k h1) (thrown_more A k) (λ x c1 h1. run_after m w (f x c1) h1) (thrown_after A)
run_more m w l {A = A} (Exec t c f) k h = handle_more k (m.stmt t c (with_more k h)) (m.stmt t c h) (λ x c1 h1. run m (f x c1) h1) Thrown (l.stmt t c k h) (λ x c1 h1. run_more m w l (f x c1) k h1) (thrown_more A k) (λ x c1 h1. run_after m w (f x c1) h1) (thrown_after A)
run_more m w l (Put bytes q) k h = run_more m w l q k (wrote h bytes)
run_more m w l (Within q f g) k h = handle_more k (run m q (with_more k h)) (run m q h) (λ x c1 h1. run m (f x c1) h1) (λ x c1 h1. run m (g x c1) h1) (run_more m w l q k h) (λ x c1 h1. run_more m w l (f x c1) k h1) (λ x c1 h1. run_more m w l (g x c1) k h1) (λ x c1 h1. run_after m w (f x c1) h1) (λ x c1 h1. run_after m w (g x c1) h1)

-- ---- the entry into a node

deep_more : {C A : Type 0} (k : ℕ) (span : Span) (deep : Bool) (c : C) (h h1 : Meter) (go : Meter → Outcome C A) → SameWithMore k (go (with_more k h1)) (go h1) → SameWithMore k (cond deep (Halt (Faulted D12 span) c (with_more k h)) (go (with_more k h1))) (cond deep (Halt (Faulted D12 span) c h) (go h1))
deep_more k span true c h h1 go m = inl refl
deep_more k span false c h h1 go m = m

-- with no step left, the text so far begins that of the run with more steps
enter_more : {C A : Type 0} (span : Span) (deep : Bool) (c : C) (k : ℕ) (h : Meter) (go : Meter → Outcome C A) → After (with_more k h) (final (enter span deep c (with_more k h) go)) → ((h1 : Meter) → SameWithMore k (go (with_more k h1)) (go h1)) → SameWithMore k (enter span deep c (with_more k h) go) (enter span deep c h go)
enter_more span deep c k h go a m = elim (cases_eq h.steps 0) [
  | inl z ↦ inr (subst (λ s. Spent s × Begins (final s).told (final (enter span deep c (with_more k h) go)).told) (sym (enter_none span deep c h go z)) ((refl, z), a.told))
  | inr y ↦
      subst (λ r. SameWithMore k r (enter span deep c h go)) (sym (enter_some span deep c (with_more k h) go (λ q. y (omega (arith, q)))))
      (subst (λ s. SameWithMore k (cond deep (Halt (Faulted D12 span) c (with_more k h)) (go (record (with_more k h) { steps = h.steps + k - 1 }))) s) (sym (enter_some span deep c h go y))
      (subst (λ h1. SameWithMore k (cond deep (Halt (Faulted D12 span) c (with_more k h)) (go h1)) (cond deep (Halt (Faulted D12 span) c h) (go (record h { steps = h.steps - 1 })))) (sym (one_less k h y))
      (deep_more k span deep c h (record h { steps = h.steps - 1 }) go (m (record h { steps = h.steps - 1 })))))
]

pub mores : {C E S : Type 0} (n : Nodes C E S) (d : ℕ) → Mores (meanings n d)
mores n zero = record {
  expr = λ e c k h. enter_more (n.expr_at e) true c k h (λ h1. Halt (Faulted D12 (n.expr_at e)) c h1) ((grows n zero).expr e c (with_more k h)) (λ h1. inl refl);
  stmt = λ t c k h. enter_more (n.stmt_at t) true c k h (λ h1. Halt (Faulted D12 (n.stmt_at t)) c h1) ((grows n zero).stmt t c (with_more k h)) (λ h1. inl refl);
}
mores n (suc d) = record {
  expr = λ e c k h. enter_more (n.expr_at e) false c k h (run (meanings n d) (n.expr e c)) ((grows n (suc d)).expr e c (with_more k h)) (run_more (meanings n d) (grows n d) (mores n d) (n.expr e c) k);
  stmt = λ t c k h. enter_more (n.stmt_at t) false c k h (run (meanings n d) (n.stmt t c)) ((grows n (suc d)).stmt t c (with_more k h)) (run_more (meanings n d) (grows n d) (mores n d) (n.stmt t c) k);
}
