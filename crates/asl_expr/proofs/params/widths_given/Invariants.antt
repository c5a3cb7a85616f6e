use Rattle.std.proofs.Common.{◌≡◌, drop, map}
use Rattle.asl_rules.specs.expressions.Calls as rules
use Rattle.asl_rules.specs.expressions.Exprs.{found}
use Rattle.asl_rules.specs.Tests.{Tests}
use Rattle.asl_subprograms.specs.private.ContextView.{scope_of}
use Rattle.asl_expr.specs.CallViews.{replacing_of, behind_replaced}
use Rattle.asl_expr.proofs.params.widths_given.Given as goal

abbrev pub invariant-loop-e : goal.invariant-loop-e
invariant-loop-e l = (t : Tests) →
    rules.widths_given (map (found t) l.es) (scope_of l.context) ≡ behind_replaced (replacing_of l.made) (rules.widths_given (map (found t) (drop l.e-index l.es)) (scope_of l.context))
