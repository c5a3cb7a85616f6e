use Rattle.std.proofs.Common.{◌≡◌, drop}
use Rattle.asl_rules.specs.types.Effects as rules
use Rattle.asl_rules.specs.expressions.Typing.{effects_of}
use Rattle.asl_tree.specs.View.{all_operands}
use Rattle.asl_typing.proofs.ends.all_together.Given as goal

abbrev pub invariant-loop-operand : goal.invariant-loop-operand
invariant-loop-operand l = rules.all_together l.most (effects_of (all_operands (drop l.operand-index l.operands))) ≡ rules.all_together l.fn.before (effects_of (all_operands l.operands))
