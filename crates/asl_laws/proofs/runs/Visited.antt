-- Steps fall by exactly the nodes that a run enters, and no more nodes are open than may be. By the shape of plans alone: no form
-- of the language is named.
use Rattle.std.proofs.Common.{◌≡◌, ℕ, zero, suc, ◌+◌, ◌-◌, ◌==◌, ◌≤◌, Bool, true, false, cond, inl, inr, List, [], ◌∷◌, ◌++◌, refl, sym, subst, arith}
use Rattle.std.proofs.lemmas.Bool.{cases_eq}
use Rattle.asl_syn.specs.declared.token.Span.{Span}
use Rattle.asl_syn.specs.declared.code.DynCode.TheVariants.{D12, D13}
use Rattle.asl_rules.specs.values.Values.{Value}
use Rattle.asl_rules.specs.runs.States.{Binding, resting}
use Rattle.asl_rules.specs.runs.Plans.{Meter, Faulted, Outcome, Done, Thrown, Halt, final, Plan, Ret, Raise, Stop, Eval, Exec, Put, Within, Meaning, handle, run, wrote, enter, Nodes, meanings}
use Rattle.asl_rules.specs.runs.Visits.{AtExpr, AtStmt, Visit, Trail, after, visits, entered_at, trails, Falls, NoMoreOpen}
use Rattle.asl_rules.specs.declarations.Programs.{Environment}
use Rattle.asl_rules.specs.runs.Evaluation.{nodes, call_of}
use Rattle.asl_rules.specs.runs.Machines.{most_open, run_of, visits_of}
use Rattle.asl_laws.specs.OneRun.{Measured}
use Rattle.asl_laws.proofs.runs.Budget.{is_zero, not_zero}

-- ---- steps

falls_on : {C E S : Type 0} (n k m : ℕ) (vs ws : List (Visit C E S)) → Falls n vs k → Falls k ws m → Falls n (vs ++ ws) m
falls_on n k m [] ws a b = subst (λ z. Falls z ws m) (sym a) b
falls_on n k m (v ∷ vs) ws a b = (a.0, falls_on v.steps k m vs ws a.1 b)

falls_after : {C E S A B : Type 0} (n : ℕ) (vs : List (Visit C E S)) (r : Outcome C B) (f : B → C → Meter → Outcome C A) (g : Value → C → Meter → Outcome C A) (fv : B → C → Meter → List (Visit C E S)) (gv : Value → C → Meter → List (Visit C E S)) →
    Falls n vs (final r).steps → ((x : B) (c : C) (h : Meter) → Falls h.steps (fv x c h) (final (f x c h)).steps) → ((x : Value) (c : C) (h : Meter) → Falls h.steps (gv x c h) (final (g x c h)).steps) →
    Falls n (vs ++ after r fv gv) (final (handle r f g)).steps
falls_after n vs (Done x c h) f g fv gv a kf kg = falls_on n h.steps (final (f x c h)).steps vs (fv x c h) a (kf x c h)
falls_after n vs (Thrown x c h) f g fv gv a kf kg = falls_on n h.steps (final (g x c h)).steps vs (gv x c h) a (kg x c h)
falls_after n vs (Halt e c h) f g fv gv a kf kg = falls_on n h.steps h.steps vs [] a refl

-- nodes whose visits take the steps
record Counted {C E S : Type 0} (m : Meaning C E S) (t : Trail C E S) : Type 0 where
  expr : (e : E) (c : C) (h : Meter) → Falls h.steps (t.expr e c h) (final (m.expr e c h)).steps
  stmt : (s : S) (c : C) (h : Meter) → Falls h.steps (t.stmt s c h) (final (m.stmt s c h)).steps

run_falls : {C E S : Type 0} (m : Meaning C E S) (t : Trail C E S) → Counted m t → {A : Type 0} (q : Plan C E S A) (h : Meter) → Falls h.steps (visits m t q h) (final (run m q h)).steps
run_falls m t w (Ret x c) h = refl
run_falls m t w (Raise x c) h = refl
run_falls m t w (Stop e c) h = refl
run_falls m t w (Eval e c k) h = falls_after h.steps (t.expr e c h) (m.expr e c h) (λ x c1 h1. run m (k x c1) h1) Thrown (λ x c1 h1. visits m t (k x c1) h1) (λ x c1 h1. []) (w.expr e c h) (λ x c1 h1. run_falls m t w (k x c1) h1) (λ x c1 h1. refl)
run_falls m t w (Exec s c k) h = falls_after h.steps (t.stmt s c h) (m.stmt s c h) (λ x c1 h1. run m (k x c1) h1) Thrown (λ x c1 h1. visits m t (k x c1) h1) (λ x c1 h1. []) (w.stmt s c h) (λ x c1 h1. run_falls m t w (k x c1) h1) (λ x c1 h1. refl)
run_falls m t w (Put bytes q) h = run_falls m t w q (wrote h bytes)
run_falls m t w (Within q f g) h = falls_after h.steps (visits m t q h) (run m q h) (λ x c1 h1. run m (f x c1) h1) (λ x c1 h1. run m (g x c1) h1) (λ x c1 h1. visits m t (f x c1) h1) (λ x c1 h1. visits m t (g x c1) h1)
    (run_falls m t w q h) (λ x c1 h1. run_falls m t w (f x c1) h1) (λ x c1 h1. run_falls m t w (g x c1) h1)

-- a node that may not be open takes no step, and one that may be takes one
refused_falls : {C A : Type 0} (span : Span) (c : C) (h : Meter) (go : Meter → Outcome C A) (b : Bool) → h.steps ≡ (final (cond b (Halt (Faulted D13 span) c h) (cond true (Halt (Faulted D12 span) c h) (go (record h { steps = h.steps - 1 }))))).steps
refused_falls span c h go true = refl
refused_falls span c h go false = refl

entered_falls : {C E S A : Type 0} (span : Span) (c : C) (h : Meter) (go : Meter → Outcome C A) (v : Visit C E S) (rest : List (Visit C E S)) → v.steps ≡ h.steps - 1 → Falls v.steps rest (final (go (record h { steps = h.steps - 1 }))).steps → Falls h.steps (entered_at (h.steps == 0) v rest) (final (enter span false c h go)).steps
entered_falls span c h go v rest e w = elim (cases_eq h.steps 0) [
  | inl n ↦ subst (λ b. Falls h.steps (entered_at b v rest) (final (cond b (Halt (Faulted D13 span) c h) (go (record h { steps = h.steps - 1 })))).steps) (sym (is_zero h.steps n)) refl
  | inr y ↦ subst (λ b. Falls h.steps (entered_at b v rest) (final (cond b (Halt (Faulted D13 span) c h) (go (record h { steps = h.steps - 1 })))).steps) (sym (not_zero h.steps y)) (omega (arith, y, e), w)
]

counted : {C E S : Type 0} (n : Nodes C E S) (d k : ℕ) → Counted (meanings n d) (trails n d k)
counted n zero k = record {
  expr = λ e c h. refused_falls (n.expr_at e) c h (λ h1. Halt (Faulted D12 (n.expr_at e)) c h1) (h.steps == 0);
  stmt = λ s c h. refused_falls (n.stmt_at s) c h (λ h1. Halt (Faulted D12 (n.stmt_at s)) c h1) (h.steps == 0);
}
counted n (suc d) k = record {
  expr = λ e c h. entered_falls (n.expr_at e) c h (run (meanings n d) (n.expr e c)) (record { node = AtExpr e; state = c; steps = h.steps - 1; nodes_open = suc k }) (visits (meanings n d) (trails n d (suc k)) (n.expr e c) (record h { steps = h.steps - 1 })) refl
      (run_falls (meanings n d) (trails n d (suc k)) (counted n d (suc k)) (n.expr e c) (record h { steps = h.steps - 1 }));
  stmt = λ s c h. entered_falls (n.stmt_at s) c h (run (meanings n d) (n.stmt s c)) (record { node = AtStmt s; state = c; steps = h.steps - 1; nodes_open = suc k }) (visits (meanings n d) (trails n d (suc k)) (n.stmt s c) (record h { steps = h.steps - 1 })) refl
      (run_falls (meanings n d) (trails n d (suc k)) (counted n d (suc k)) (n.stmt s c) (record h { steps = h.steps - 1 }));
}

-- ---- open nodes

few_on : {C E S : Type 0} (most : ℕ) (vs ws : List (Visit C E S)) → NoMoreOpen most vs → NoMoreOpen most ws → NoMoreOpen most (vs ++ ws)
few_on most [] ws a b = b
few_on most (v ∷ vs) ws a b = (a.0, few_on most vs ws a.1 b)

few_after : {C E S B : Type 0} (most : ℕ) (vs : List (Visit C E S)) (r : Outcome C B) (fv : B → C → Meter → List (Visit C E S)) (gv : Value → C → Meter → List (Visit C E S)) →
    NoMoreOpen most vs → ((x : B) (c : C) (h : Meter) → NoMoreOpen most (fv x c h)) → ((x : Value) (c : C) (h : Meter) → NoMoreOpen most (gv x c h)) → NoMoreOpen most (vs ++ after r fv gv)
few_after most vs (Done x c h) fv gv a kf kg = few_on most vs (fv x c h) a (kf x c h)
few_after most vs (Thrown x c h) fv gv a kf kg = few_on most vs (gv x c h) a (kg x c h)
few_after most vs (Halt e c h) fv gv a kf kg = few_on most vs [] a tt

record Few {C E S : Type 0} (most : ℕ) (t : Trail C E S) : Type 0 where
  expr : (e : E) (c : C) (h : Meter) → NoMoreOpen most (t.expr e c h)
  stmt : (s : S) (c : C) (h : Meter) → NoMoreOpen most (t.stmt s c h)

run_few : {C E S : Type 0} (most : ℕ) (m : Meaning C E S) (t : Trail C E S) → Few most t → {A : Type 0} (q : Plan C E S A) (h : Meter) → NoMoreOpen most (visits m t q h)
run_few most m t w (Ret x c) h = tt
run_few most m t w (Raise x c) h = tt
run_few most m t w (Stop e c) h = tt
run_few most m t w (Eval e c k) h = few_after most (t.expr e c h) (m.expr e c h) (λ x c1 h1. visits m t (k x c1) h1) (λ x c1 h1. []) (w.expr e c h) (λ x c1 h1. run_few most m t w (k x c1) h1) (λ x c1 h1. tt)
run_few most m t w (Exec s c k) h = few_after most (t.stmt s c h) (m.stmt s c h) (λ x c1 h1. visits m t (k x c1) h1) (λ x c1 h1. []) (w.stmt s c h) (λ x c1 h1. run_few most m t w (k x c1) h1) (λ x c1 h1. tt)
run_few most m t w (Put bytes q) h = run_few most m t w q (wrote h bytes)
run_few most m t w (Within q f g) h = few_after most (visits m t q h) (run m q h) (λ x c1 h1. visits m t (f x c1) h1) (λ x c1 h1. visits m t (g x c1) h1) (run_few most m t w q h) (λ x c1 h1. run_few most m t w (f x c1) h1) (λ x c1 h1. run_few most m t w (g x c1) h1)

entered_few : {C E S : Type 0} (most : ℕ) (b : Bool) (v : Visit C E S) (rest : List (Visit C E S)) → v.nodes_open ≤ most → NoMoreOpen most rest → NoMoreOpen most (entered_at b v rest)
entered_few most true v rest p w = tt
entered_few most false v rest p w = (p, w)

few : {C E S : Type 0} (n : Nodes C E S) (d k most : ℕ) → d + k ≤ most → Few most (trails n d k)
few n zero k most p = record { expr = λ e c h. tt; stmt = λ s c h. tt }
few n (suc d) k most p = record {
  expr = λ e c h. entered_few most (h.steps == 0) (record { node = AtExpr e; state = c; steps = h.steps - 1; nodes_open = suc k }) (visits (meanings n d) (trails n d (suc k)) (n.expr e c) (record h { steps = h.steps - 1 })) (omega (arith, p))
      (run_few most (meanings n d) (trails n d (suc k)) (few n d (suc k) most (omega (arith, p))) (n.expr e c) (record h { steps = h.steps - 1 }));
  stmt = λ s c h. entered_few most (h.steps == 0) (record { node = AtStmt s; state = c; steps = h.steps - 1; nodes_open = suc k }) (visits (meanings n d) (trails n d (suc k)) (n.stmt s c) (record h { steps = h.steps - 1 })) (omega (arith, p))
      (run_few most (meanings n d) (trails n d (suc k)) (few n d (suc k) most (omega (arith, p))) (n.stmt s c) (record h { steps = h.steps - 1 }));
}

-- ---- calls from outside

falls : (env : Environment) (id : ℕ) (args : List Value) (globals : List Binding) (h : Meter) → Falls h.steps (visits_of env id args globals h) (final (run_of env id args globals h)).steps
unfolding run_of visits_of
falls env id args globals h = run_falls (meanings (nodes env) most_open) (trails (nodes env) most_open 0) (counted (nodes env) most_open 0) (call_of env id args (resting globals)) h

no_more : (env : Environment) (id : ℕ) (args : List Value) (globals : List Binding) (h : Meter) → NoMoreOpen most_open (visits_of env id args globals h)
unfolding visits_of
no_more env id args globals h = run_few most_open (meanings (nodes env) most_open) (trails (nodes env) most_open 0) (few (nodes env) most_open 0 most_open (omega arith)) (call_of env id args (resting globals)) h

pub measured : (env : Environment) (id : ℕ) (args : List Value) (globals : List Binding) (h : Meter) → Measured env id args globals h
measured env id args globals h = record { falls = falls env id args globals h; few = no_more env id args globals h }
