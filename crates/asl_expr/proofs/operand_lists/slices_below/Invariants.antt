use Rattle.std.proofs.Common.{◌≡◌, drop}
use Rattle.asl_rules.specs.expressions.Slicing as rules
use Rattle.asl_rules.specs.statements.Targets.{found_slices}
use Rattle.asl_rules.specs.Tests.{Tests}
use Rattle.asl_subprograms.specs.private.ContextView.{scope_of}
use Rattle.asl_types.specs.Suits.{Suits}
use Rattle.asl_expr.proofs.SliceLemmas.{behind}
use Rattle.asl_expr.proofs.operand_lists.slices_below.Given as goal

abbrev pub invariant-loop-s : goal.invariant-loop-s
invariant-loop-s g l = (t : Tests) → Suits t → rules.all_operands (found_slices t l.slices) (scope_of l.here.context) ≡ behind l.trees (rules.all_operands (found_slices t (drop l.s-index l.slices)) (scope_of l.here.context))
