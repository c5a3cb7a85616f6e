use Rattle.std.proofs.Common.{◌≡◌, map, Ok, Err, rules, subst}
use Rattle.asl_rules.specs.expressions.Calls.{widths_rule}
use Rattle.asl_rules.specs.expressions.Exprs.{found}
use Rattle.asl_types.specs.private.Answers.{Met}
use Rattle.asl_subprograms.specs.private.ContextView.{scope_of}
use Rattle.asl_tree.specs.View.{all_operands}
use Rattle.asl_expr.specs.CallViews.{called_of, replacing_of}
use Rattle.asl_expr.proofs.Stepping.{went, stops}
use Rattle.asl_expr.proofs.calls.procedure_given.Goals as goal

pub returns : goal.returns
returns c t s =
    went called_of _ _ (replacing_of c.in_ok-given.given) c.procedure_called.result
    (subst (λ us. widths_rule c.args.span c.args.signature.now (map (found t) c.args.params.now) (all_operands us) (scope_of c.args.context) ≡ Ok (replacing_of c.in_ok-given.given)) c.as_slice.ensures (c.in_ok-given.ensures t)) (c.procedure_called.ensures t s)

pub returns-in_err-given : goal.returns-in_err-given
returns-in_err-given c t s =
    let is : c.from_residual.result ≡ Err c.in_err-given.field-0.0 = search rules in
    stops replacing_of called_of _ _ c.in_err-given.field-0.0 c.from_residual.result is
    (subst (λ us. Met replacing_of (Err c.in_err-given.field-0.0) (widths_rule c.args.span c.args.signature.now (map (found t) c.args.params.now) (all_operands us) (scope_of c.args.context))) c.as_slice.ensures (c.in_err-given.ensures t))
