use Rattle.std.proofs.Common.{◌≡◌, drop}
use Rattle.asl_rules.specs.expressions.Calls as rules
use Rattle.asl_rules.specs.Tests.{Tests}
use Rattle.asl_types.specs.Suits.{Suits}
use Rattle.asl_expr.specs.CallViews.{all_given}
use Rattle.asl_expr.proofs.call_fits.params_fit.Given as goal

abbrev pub invariant-loop-i : goal.invariant-loop-i
invariant-loop-i l = (t : Tests) → Suits t → rules.params_fit t l.span l.by l.params (all_given l.given) ≡ rules.params_fit t l.span l.by (drop l.i l.params) (all_given (drop l.i l.given))
