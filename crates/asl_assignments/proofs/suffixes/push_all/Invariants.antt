use Rattle.std.proofs.Common.{◌≡◌, ◌++◌, drop}
use Rattle.asl_rules.specs.expressions.Typing.{effects_of}
use Rattle.asl_tree.specs.View.{all_operands}
use Rattle.asl_assignments.proofs.suffixes.push_all.Given as goal

abbrev pub invariant-loop-e : goal.invariant-loop-e
invariant-loop-e l = l.effects ++ effects_of (all_operands (drop l.e-index l.trees)) ≡ l.fn.effects ++ effects_of (all_operands l.trees)
