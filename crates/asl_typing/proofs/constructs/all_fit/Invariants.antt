use Rattle.std.proofs.Common.{◌≡◌, drop}
use Rattle.asl_rules.specs.values.Members as rules
use Rattle.asl_rules.specs.Tests.{Tests, IsRight}
use Rattle.asl_tree.specs.View.{all_operands}
use Rattle.asl_typing.proofs.constructs.all_fit.Given as goal

abbrev pub invariant-loop-operand : goal.invariant-loop-operand
invariant-loop-operand l = (t : Tests) → IsRight t → rules.all_fit t (all_operands (drop l.operand-index l.operands)) l.rest ≡ rules.all_fit t (all_operands l.operands) l.types
