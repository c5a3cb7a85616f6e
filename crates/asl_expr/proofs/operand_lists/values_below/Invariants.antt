use Rattle.std.proofs.Common.{◌≡◌, drop}
use Rattle.asl_rules.specs.expressions.Exprs.{values_given}
use Rattle.asl_rules.specs.Tests.{Tests}
use Rattle.asl_rules.specs.expressions.Typing.{operands}
use Rattle.asl_subprograms.specs.private.ContextView.{scope_of}
use Rattle.asl_types.specs.Suits.{Suits}
use Rattle.asl_typing.specs.private.Constructs.{found_fields}
use Rattle.asl_tree.specs.private.Ends.{behind_operands}
use Rattle.asl_expr.proofs.operand_lists.values_below.Given as goal

abbrev pub invariant-loop-g : goal.invariant-loop-g
invariant-loop-g g l = (t : Tests) → Suits t → operands (values_given (found_fields t l.given)) (scope_of l.here.context) ≡ behind_operands l.trees (operands (values_given (found_fields t (drop l.g-index l.given))) (scope_of l.here.context))
