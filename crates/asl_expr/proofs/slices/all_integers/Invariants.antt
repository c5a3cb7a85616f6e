use Rattle.std.proofs.Common.{◌≡◌, drop}
use Rattle.asl_rules.specs.expressions.Slicing as rules
use Rattle.asl_tree.specs.View.{all_operands}
use Rattle.asl_expr.proofs.slices.all_integers.Given as goal

abbrev pub invariant-loop-o : goal.invariant-loop-o
invariant-loop-o l = rules.all_integers (all_operands (drop l.o-index l.operands)) ≡ rules.all_integers (all_operands l.operands)
