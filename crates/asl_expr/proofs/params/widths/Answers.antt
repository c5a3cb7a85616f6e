use Rattle.std.proofs.Common.{Result, sym, subst}
use Rattle.std.proofs.lemmas.Grind.{common_steps}
use Rattle.std.proofs.Common.{arith}
use Rattle.asl_syn.specs.declared.code.Fault.{Fault}
use Rattle.asl_rules.specs.expressions.Calls.{Replacing}
use Rattle.asl_types.specs.private.Answers.{Met}
use Rattle.asl_subprograms.specs.private.ContextView.{scope_of}
use Rattle.asl_tree.specs.View.{all_operands}
use Rattle.asl_expr.specs.CallViews.{replacing_of}
use Rattle.asl_expr.proofs.ParamLemmas.{widths_written}
use Rattle.asl_expr.proofs.params.widths.Goals as goal

pub returns : goal.returns
returns c t =
    subst (λ (z : Result Replacing Fault). Met replacing_of c.widths_given.result z)
    (sym (widths_written t c.args.span c.args.signature.now c.args.params.now (all_operands c.args.arguments.now) (scope_of c.args.context) c.is_empty.result c.is_empty.ensures c.if-is_empty.false (grind (arith, common_steps))))
    (c.widths_given.ensures t)
