-- A call from outside writes nothing before its first node.
use Rattle.std.proofs.Common.{ℕ, List, [], ◌∷◌, Some, None}
use Rattle.std.specs.Prelude.{slice_get}
use Rattle.asl_syn.specs.declared.token.Span.{Span}
use Rattle.asl_syn.specs.declared.tree.Expr.{Expr}
use Rattle.asl_syn.specs.declared.tree.Func.{Func}
use Rattle.asl_syn.specs.declared.tree.Stmt.{Stmt}
use Rattle.asl_rules.specs.declarations.Programs.{Environment, funcs_of, origin}
use Rattle.asl_rules.specs.values.Values.{Value, Exit, Normal, Returned}
use Rattle.asl_rules.specs.runs.States.{Core, restored}
use Rattle.asl_rules.specs.runs.Plans.{Pure, Good, Bad, Ret, lift}
use Rattle.asl_rules.specs.runs.Pures.{known}
use Rattle.asl_rules.specs.runs.Forms.{Keeps, returned, at_end}
use Rattle.asl_rules.specs.runs.StatementForms.{in_order}
use Rattle.asl_rules.specs.runs.Evaluation.{Does, Entering, entering, result_at, run_body, run_with, call_of}
use Rattle.asl_rules.specs.types.Numbers.{present}
use Rattle.asl_laws.proofs.runs.Quiet.{Quiet}

list_quiet : (ss : List Stmt) (c : Core) → Quiet {E = Expr} (in_order ss c)
list_quiet [] c = tt
list_quiet (s ∷ ss) c = tt

lift_quiet : {A B : Type 0} (r : Pure A) (c : Core) (k : A → Does B) → ((x : A) → Quiet (k x)) → Quiet (lift r c k)
lift_quiet (Good x) c k q = q x
lift_quiet (Bad e) c k q = tt

end_quiet : (span : Span) (r : Keeps) (back : Core → Core) (x : Exit) (c : Core) → Quiet (at_end {E = Expr} {S = Stmt} span r back x c)
end_quiet span r back (Returned x) c = lift_quiet (returned span r x) c (λ y. Ret y (back c)) (λ y. tt)
end_quiet span None back Normal c = tt
end_quiet span (Some f) back Normal c = tt

body_quiet : (env : Environment) (f : Func) (c : Core) (e : Entering) → Quiet (run_body env f c e)
body_quiet env f c e = (list_quiet f.body e.inner, end_quiet f.name.span (result_at env f.name.span (present e.params) f.result) (restored c), λ x c1. tt)

with_quiet : (env : Environment) (span : Span) (id : ℕ) (f : Func) (ps xs : List Value) (c : Core) → Quiet (run_with env span id f ps xs c)
with_quiet env span id f ps xs c = lift_quiet (entering env span id f ps xs c) c (run_body env f c) (body_quiet env f c)

pub call_quiet : (env : Environment) (id : ℕ) (args : List Value) (c : Core) → Quiet (call_of env id args c)
call_quiet env id args c = lift_quiet (known origin (slice_get (funcs_of env.decls) id)) c (λ f. run_with env f.name.span id f [] args c) (λ f. with_quiet env f.name.span id f [] args c)
