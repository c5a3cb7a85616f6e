-- An expression that has a value before any run gives that value in a run.
use Rattle.std.proofs.Common.{ℕ, zero, suc, ◌-◌, ◌==◌, Bool, true, false, cond, inl, inr, List, refl, sym, ap, ap₂, subst}
use Rattle.asl_syn.specs.declared.token.Span.{Span}
use Rattle.asl_syn.specs.declared.code.DynCode.TheVariants.{D12, D13}
use Rattle.asl_syn.specs.declared.tree.Expr.{Expr, out-Expr}
use Rattle.asl_syn.specs.declared.tree.Stmt.{Stmt}
use Rattle.asl_rules.specs.values.Values.{Value}
use Rattle.asl_rules.specs.declarations.Scopes.{Entry}
use Rattle.asl_rules.specs.runs.States.{Core}
use Rattle.asl_rules.specs.runs.Plans.{Meter, Faulted, Outcome, Done, Thrown, Halt, handle, Plan, Ret, Stop, Eval, Within, run, Pure, Good, Bad}
use Rattle.asl_rules.specs.runs.Pures.{◌>>=◌}
use Rattle.asl_rules.specs.runs.ByNames.{expr_plan}
use Rattle.asl_rules.specs.declarations.Constants.{Known, before_runs, known_parts, settled, constant}
use Rattle.asl_rules.specs.declarations.Programs.{Environment}
use Rattle.asl_rules.specs.expressions.Exprs.{expr_span, span_of}
use Rattle.asl_rules.specs.runs.Evaluation.{in_state, tree_parts, meaning}
use Rattle.asl_laws.specs.BeforeRuns.{HoldsInitial, RanOut, HoldsCall, AsBefore}
use Rattle.asl_rules.proofs.constants.KnownParts.{known_layer, constant_out}
use Rattle.asl_laws.proofs.constants.KnownTwins.{IsCall, Twin, PlansTwin, of_all}

module _ (env : Environment) (c : Core) where
  call_barred : {A B : Type 0} (span : Span) (q : Plan (List Entry) Known Known B) (f : B → Pure A) → IsCall q → HoldsCall (settled span env.names q >>= f)
  call_barred span (Stop e n) f h = h
  call_barred span q f h = absurd h

  -- what comes behind a node
  next_before : {A : Type 0} (p : Pure Value) (r : Outcome Core Value) (f : Value → Pure A) (g : Value → Core → Meter → Outcome Core A) → AsBefore c p r → ((x : Value) (h : Meter) → AsBefore c (f x) (g x c h)) → AsBefore c (p >>= f) (handle r g Thrown)
  next_before (Good x) r f g (inl s) k = subst (λ z. AsBefore c (f x) (handle z g Thrown)) (sym s.1) (k x s.0)
  next_before (Bad e) r f g (inl s) k = inl (s.0, ap (λ z. handle z g Thrown) s.1)
  next_before p r f g (inr (inl o)) k = inr (inl (record { code = o.code; span = o.span; state = o.state; meter = o.meter; is = ap (λ z. handle z g Thrown) o.is; short = o.short }))
  next_before (Good x) r f g (inr (inr b)) k = absurd b
  next_before (Bad e) r f g (inr (inr b)) k = inr (inr b)

  -- however many nodes may be open
  abbrev Before : Expr → Type 0
  Before e = (d : ℕ) (h : Meter) → AsBefore c (constant env.limit e env.names) ((meaning env d).expr e c h)

  run_before : (d : ℕ) {A : Type 0} (span : Span) (p : Plan Core Expr Stmt A) (q : Plan (List Entry) Known Known A) → Twin env c Before (Unit {0}) p q → (h : Meter) → AsBefore c (settled span env.names q) (run (meaning env d) p h)
  run_before d span (Ret x s) (Ret y n) t h = inl (h, ap₂ (λ a b. Done a b h) t.1 t.0)
  run_before d span (Stop e s) (Stop f n) t h = inl (h, ap₂ (λ a b. Halt a b h) t.1 t.0)
  run_before d span (Eval e s k) (Eval f n l) t h =
      subst (λ z. AsBefore c (settled span env.names (Eval f n l)) (run (meaning env d) (Eval e z k) h)) (sym t.0)
      (subst (λ y. AsBefore c (settled span env.names (Eval y n l)) (run (meaning env d) (Eval e c k) h)) (sym t.1.0)
      (next_before (constant env.limit e env.names) ((meaning env d).expr e c h) (λ x. settled span env.names (l x env.names)) (λ x c1 h1. run (meaning env d) (k x c1) h1) (t.1.1.0 d h) (λ x h1. run_before d span (k x c) (l x env.names) (t.1.1.1 x) h1)))
  run_before d span (Within p f g) (Within q f1 g1) t h = inr (inr (call_barred span q (λ x. settled span env.names (f1 x env.names)) t.0))
  run_before d span p q t h = absurd t

  full_out : {A : Type 0} (span : Span) (h : Meter) (r : Outcome Core A) (b : Bool) → RanOut (cond b (Halt (Faulted D13 span) c h) (cond true (Halt (Faulted D12 span) c h) r))
  full_out span h r true = record { code = D13; span = span; state = c; meter = h; is = refl; short = inr refl }
  full_out span h r false = record { code = D12; span = span; state = c; meter = h; is = refl; short = inl refl }

  entered_before : {A : Type 0} (p : Pure A) (span : Span) (h : Meter) (go : Meter → Outcome Core A) → ((h1 : Meter) → AsBefore c p (go h1)) → (b : Bool) → AsBefore c p (cond b (Halt (Faulted D13 span) c h) (go (record h { steps = h.steps - 1 })))
  entered_before p span h go k true = inr (inl (record { code = D13; span = span; state = c; meter = h; is = refl; short = inr refl }))
  entered_before p span h go k false = k (record h { steps = h.steps - 1 })

  pub node_before : HoldsInitial env c → (e : Expr) → Before e
  node_before holds = of_all env c Before (Unit {0}) holds tt node
    where
      node : (e : Expr) → PlansTwin env c Before (Unit {0}) (out-Expr e) → Before e
      node e w zero h = inr (inl (full_out (expr_span e) h (Halt (Faulted D12 (expr_span e)) c (record h { steps = h.steps - 1 })) (h.steps == 0)))
      node e w (suc d) h = entered_before (constant env.limit e env.names) (expr_span e) h (run (meaning env d) (expr_plan (in_state env) tree_parts (out-Expr e) c))
          (λ h1. subst (λ k. AsBefore c (k env.names) (run (meaning env d) (expr_plan (in_state env) tree_parts (out-Expr e) c) h1)) (sym (constant_out env.limit e))
          (run_before d (span_of (known_layer env.limit (out-Expr e))) (expr_plan (in_state env) tree_parts (out-Expr e) c) (expr_plan (before_runs env.limit) known_parts (known_layer env.limit (out-Expr e)) env.names) w h1))
          (h.steps == 0)
