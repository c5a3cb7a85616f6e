use Rattle.std.proofs.Common.{◌≡◌, drop}
use Rattle.asl_rules.specs.expressions.Calls as rules
use Rattle.asl_types.specs.View.{parts_of}
use Rattle.asl_tree.specs.View.{all_operands}
use Rattle.asl_expr.specs.CallViews.{replacing_of, behind_replaced}
use Rattle.asl_expr.proofs.params.widths_omitted.Given as goal

abbrev pub invariant-loop-p : goal.invariant-loop-p
invariant-loop-p l =
    rules.widths_omitted l.span l.params (parts_of l.formals) (all_operands l.arguments) ≡ behind_replaced (replacing_of l.made) (rules.widths_omitted l.span (drop l.p-index l.params) (parts_of l.formals) (all_operands l.arguments))
