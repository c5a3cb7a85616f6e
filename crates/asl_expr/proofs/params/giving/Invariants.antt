use Rattle.std.proofs.Common.{◌≡◌, drop}
use Rattle.asl_rules.specs.expressions.Calls as rules
use Rattle.asl_types.specs.View.{parts_of}
use Rattle.asl_tree.specs.View.{all_operands}
use Rattle.asl_expr.proofs.params.giving.Given as goal

abbrev pub invariant-loop-i : goal.invariant-loop-i
invariant-loop-i l =
    rules.given_by_argument l.atom 0 (parts_of l.formals) (all_operands l.arguments) ≡ rules.given_by_argument l.atom l.i (parts_of (drop l.i l.formals)) (all_operands (drop l.i l.arguments))
