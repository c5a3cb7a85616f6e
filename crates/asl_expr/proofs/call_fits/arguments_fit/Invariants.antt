use Rattle.std.proofs.Common.{◌≡◌, drop}
use Rattle.asl_rules.specs.expressions.Calls as rules
use Rattle.asl_rules.specs.Tests.{Tests}
use Rattle.asl_types.specs.Suits.{Suits}
use Rattle.asl_types.specs.View.{parts_of}
use Rattle.asl_tree.specs.View.{all_operands}
use Rattle.asl_expr.proofs.call_fits.arguments_fit.Given as goal

abbrev pub invariant-loop-i : goal.invariant-loop-i
invariant-loop-i l = (t : Tests) → Suits t → rules.arguments_fit t l.span l.by (parts_of l.formals) (all_operands l.arguments) ≡ rules.arguments_fit t l.span l.by (parts_of (drop l.i l.formals)) (all_operands (drop l.i l.arguments))
