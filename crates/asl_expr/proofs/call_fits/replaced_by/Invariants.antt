use Rattle.std.proofs.Common.{◌≡◌, ◌++◌, drop}
use Rattle.asl_rules.specs.expressions.Calls as rules
use Rattle.asl_expr.specs.CallViews.{all_given}
use Rattle.asl_expr.proofs.call_fits.replaced_by.Given as goal

abbrev pub invariant-loop-i : goal.invariant-loop-i
invariant-loop-i l = l.by.items ++ rules.replaced_by (drop l.i l.params) (all_given (drop l.i l.given)) ≡ rules.replaced_by l.params (all_given l.given)
