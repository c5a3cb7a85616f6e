-- So many nodes are enough for an expression that has a value before any run: as many as its evaluation enters.
use Rattle.std.proofs.Common.{◌≡◌, ℕ, zero, suc, ◌+◌, ◌-◌, ◌≤◌, false, ◌⊎◌, inl, inr, List, sym, ap, ap₂, subst, arith}
use Rattle.asl_syn.specs.declared.token.Span.{Span}
use Rattle.asl_syn.specs.declared.tree.Expr.{Expr, out-Expr}
use Rattle.asl_syn.specs.declared.tree.Stmt.{Stmt}
use Rattle.asl_rules.specs.values.Values.{Value}
use Rattle.asl_rules.specs.declarations.Scopes.{Entry}
use Rattle.asl_rules.specs.runs.States.{Core}
use Rattle.asl_rules.specs.runs.Plans.{Meter, Outcome, Done, Thrown, Halt, handle, Plan, Ret, Stop, Eval, Within, run, enter, Pure, Good, Bad}
use Rattle.asl_rules.specs.runs.Pures.{◌>>=◌}
use Rattle.asl_rules.specs.runs.ByNames.{expr_plan}
use Rattle.asl_rules.specs.declarations.Constants.{Known, before_runs, known_parts, settled, constant}
use Rattle.asl_rules.specs.declarations.Programs.{Environment}
use Rattle.asl_rules.specs.expressions.Exprs.{expr_span, span_of}
use Rattle.asl_rules.specs.runs.Evaluation.{in_state, tree_parts, meaning}
use Rattle.asl_laws.specs.BeforeRuns.{HoldsInitial, EndsSo, IsBarred, HoldsCall, Enough, OneEvaluation}
use Rattle.asl_laws.proofs.runs.Budget.{enter_some}
use Rattle.asl_rules.proofs.constants.KnownParts.{known_layer, constant_out}
use Rattle.asl_laws.proofs.constants.KnownTwins.{IsCall, Twin, PlansTwin, of_all}
use Rattle.asl_laws.proofs.constants.KnownRuns.{node_before}

module _ (env : Environment) (c : Core) (K : Type 0) where
  -- a run ends as was known, and takes no more than n steps, or there is a call, which may be where K holds
  abbrev pub Costs : {A : Type 0} → ℕ → Pure A → Meter → Outcome Core A → Type 0
  Costs n (Good x) h r = (h1 : Meter) × ((r ≡ Done x c h1) × (h.steps ≤ h1.steps + n))
  Costs n (Bad e) h r = ((h1 : Meter) × (r ≡ Halt e c h1)) ⊎ (IsBarred e × K)

  pub record Bound {A : Type 0} (p : Pure A) (f : ℕ → Meter → Outcome Core A) : Type 0 where
    pub n : ℕ
    pub cost : (d : ℕ) (h : Meter) → n ≤ d → n ≤ h.steps → Costs n p h (f d h)

  abbrev pub Bounded : Expr → Type 0
  Bounded e = Bound (constant env.limit e env.names) (λ d h. (meaning env d).expr e c h)

  behind_steps : {A : Type 0} (p : Pure A) (h h1 : Meter) (m k : ℕ) (r : Outcome Core A) → h.steps ≤ h1.steps + m → Costs k p h1 r → Costs (m + k) p h r
  behind_steps (Good x) h h1 m k r i w = let j = w.1.1 in (w.0, (w.1.0, omega (arith, i, j)))
  behind_steps (Bad e) h h1 m k r i w = w

  next_bound : {A : Type 0} (p : Pure Value) (f : ℕ → Meter → Outcome Core Value) (k : Value → Pure A) (g : ℕ → Value → Core → Meter → Outcome Core A) → Bound p f → ((x : Value) → Bound (k x) (λ d h. g d x c h)) → Bound (p >>= k) (λ d h. handle (f d h) (g d) Thrown)
  next_bound (Good x) f k g b rest = record {
    n = b.n + (rest x).n;
    cost = λ d h i j.
        let r = b.cost d h (omega (arith, i)) (omega (arith, j)) in
        let l = r.1.1 in
        subst (λ z. Costs (b.n + (rest x).n) (k x) h (handle z (g d) Thrown)) (sym r.1.0)
        (behind_steps (k x) h r.0 b.n (rest x).n (g d x c r.0) l ((rest x).cost d r.0 (omega (arith, i)) (omega (arith, j, l))));
  }
  next_bound (Bad e) f k g b rest = record {
    n = b.n;
    cost = λ d h i j. elim (b.cost d h i j) [
      | inl s ↦ inl (s.0, ap (λ z. handle z (g d) Thrown) s.1)
      | inr s ↦ inr s
    ];
  }

  barred_bound : {A B : Type 0} (span : Span) (q : Plan (List Entry) Known Known B) (f : B → Pure A) (r : ℕ → Meter → Outcome Core A) → IsCall q × K → Bound (settled span env.names q >>= f) r
  barred_bound span (Stop e n) f r w = record { n = 0; cost = λ d h i j. inr w }
  barred_bound span q f r w = absurd w.0

  plan_bound : {A : Type 0} (span : Span) (p : Plan Core Expr Stmt A) (q : Plan (List Entry) Known Known A) → Twin env c Bounded K p q → Bound (settled span env.names q) (λ d h. run (meaning env d) p h)
  plan_bound span (Ret x s) (Ret y n) t = record { n = 0; cost = λ d h i j. (h, (ap₂ (λ a b. Done a b h) t.1 t.0, omega arith)) }
  plan_bound span (Stop e s) (Stop f n) t = record { n = 0; cost = λ d h i j. inl (h, ap₂ (λ a b. Halt a b h) t.1 t.0) }
  plan_bound span (Eval e s k) (Eval f n l) t =
      subst (λ z. Bound (settled span env.names (Eval f n l)) (λ d h. run (meaning env d) (Eval e z k) h)) (sym t.0)
      (subst (λ y. Bound (settled span env.names (Eval y n l)) (λ d h. run (meaning env d) (Eval e c k) h)) (sym t.1.0)
      (next_bound (constant env.limit e env.names) (λ d h. (meaning env d).expr e c h) (λ x. settled span env.names (l x env.names)) (λ d x c1 h1. run (meaning env d) (k x c1) h1) t.1.1.0 (λ x. plan_bound span (k x c) (l x env.names) (t.1.1.1 x))))
  plan_bound span (Within p f g) (Within q f1 g1) t = barred_bound span q (λ x. settled span env.names (f1 x env.names)) (λ d h. run (meaning env d) (Within p f g) h) t
  plan_bound span p q t = absurd t

  -- the entry takes one step more
  entered_cost : {A : Type 0} (p : Pure A) (span : Span) (n : ℕ) (h : Meter) (go : Meter → Outcome Core A) → suc n ≤ h.steps → Costs n p (record h { steps = h.steps - 1 }) (go (record h { steps = h.steps - 1 })) → Costs (1 + n) p h (enter span false c h go)
  entered_cost p span n h go i w =
      subst (λ z. Costs (1 + n) p h z) (sym (enter_some span false c h go (λ (z : h.steps ≡ 0). omega (arith, i, z))))
      (behind_steps p h (record h { steps = h.steps - 1 }) 1 n (go (record h { steps = h.steps - 1 })) (omega arith) w)

  pub node_bound : (e : Expr) → PlansTwin env c Bounded K (out-Expr e) → Bounded e
  node_bound e w =
      let b = subst (λ (k : Known). Bound (k env.names) (λ d h. run (meaning env d) (expr_plan (in_state env) tree_parts (out-Expr e) c) h)) (sym (constant_out env.limit e))
      (plan_bound (span_of (known_layer env.limit (out-Expr e))) (expr_plan (in_state env) tree_parts (out-Expr e) c) (expr_plan (before_runs env.limit) known_parts (known_layer env.limit (out-Expr e)) env.names) w) in
      record { n = 1 + b.n; cost = node_cost e b }
    where
      node_cost : (e : Expr) (b : Bound (constant env.limit e env.names) (λ d h. run (meaning env d) (expr_plan (in_state env) tree_parts (out-Expr e) c) h)) (d : ℕ) (h : Meter) → 1 + b.n ≤ d → 1 + b.n ≤ h.steps → Costs (1 + b.n) (constant env.limit e env.names) h ((meaning env d).expr e c h)
      node_cost e b zero h i j = absurd (omega (arith, i))
      node_cost e b (suc d) h i j = entered_cost (constant env.limit e env.names) (expr_span e) b.n h (run (meaning env d) (expr_plan (in_state env) tree_parts (out-Expr e) c)) (omega (arith, j)) (b.cost d (record h { steps = h.steps - 1 }) (omega (arith, i)) (omega (arith, j)))

  ends_by : {A : Type 0} (n : ℕ) (p : Pure A) (h : Meter) (r : Outcome Core A) → Costs n p h r → EndsSo c p r ⊎ (HoldsCall p × K)
  ends_by n (Good x) h r w = inl (w.0, w.1.0)
  ends_by n (Bad e) h r w = w

  pub ends_so : (e : Expr) (b : Bounded e) (d : ℕ) (h : Meter) → b.n ≤ d → b.n ≤ h.steps → EndsSo c (constant env.limit e env.names) ((meaning env d).expr e c h) ⊎ (HoldsCall (constant env.limit e env.names) × K)
  ends_so e b d h i j = ends_by b.n (constant env.limit e env.names) h ((meaning env d).expr e c h) (b.cost d h i j)

module _ (env : Environment) (c : Core) (holds : HoldsInitial env c) where
  bounded : (e : Expr) → Bounded env c (Unit {0}) e
  bounded = of_all env c (Bounded env c (Unit {0})) (Unit {0}) holds tt (node_bound env c (Unit {0}))

  pub enough : (e : Expr) → Enough env c e
  enough e = record {
    nodes = (bounded e).n;
    ends = λ d h i j. elim (ends_so env c (Unit {0}) e (bounded e) d h i j) [
      | inl s ↦ inl s
      | inr s ↦ inr s.0
    ];
  }

pub one_evaluation : (env : Environment) → OneEvaluation env
one_evaluation env = record { agrees = λ d e c h holds. node_before env c holds e d h; enough = λ e c holds. enough env c holds e }
