use Rattle.std.proofs.Common.{◌≡◌, drop}
use Rattle.asl_rules.specs.expressions.Typing.{types_of}
use Rattle.asl_tree.specs.View.{all_operands}
use Rattle.asl_tree.specs.private.Ends.{parts_before}
use Rattle.asl_typing.proofs.operations.operand_types.Given as goal

abbrev pub invariant-loop-operand : goal.invariant-loop-operand
invariant-loop-operand l = parts_before l.found (types_of (all_operands (drop l.operand-index l.operands))) ≡ types_of (all_operands l.operands)
