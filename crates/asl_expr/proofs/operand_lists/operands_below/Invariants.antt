use Rattle.std.proofs.Common.{◌≡◌, drop, map}
use Rattle.asl_rules.specs.expressions.Exprs.{found}
use Rattle.asl_rules.specs.Tests.{Tests}
use Rattle.asl_rules.specs.expressions.Typing.{operands}
use Rattle.asl_subprograms.specs.private.ContextView.{scope_of}
use Rattle.asl_types.specs.Suits.{Suits}
use Rattle.asl_tree.specs.private.Ends.{behind_operands}
use Rattle.asl_expr.proofs.operand_lists.operands_below.Given as goal

abbrev pub invariant-loop-e : goal.invariant-loop-e
invariant-loop-e g l = (t : Tests) → Suits t → operands (map (found t) l.es) (scope_of l.here.context) ≡ behind_operands l.trees (operands (map (found t) (drop l.e-index l.es)) (scope_of l.here.context))
