use Rattle.std.proofs.Common.{◌≡◌, Ok, Err, rules, subst}
use Rattle.asl_syn.specs.declared.code.StaticCode.TheVariants.{T20}
use Rattle.asl_rules.specs.expressions.Calls.{both_fit, replaced_by, call_tree}
use Rattle.asl_rules.specs.Faults.{found_or}
use Rattle.asl_rules.specs.runs.Trees.{own}
use Rattle.asl_rules.specs.types.Types.{Ty, substitute}
use Rattle.asl_rules.specs.expressions.Typing.{finish_all}
use Rattle.asl_types.specs.private.Answers.{Met}
use Rattle.asl_widths.specs.private.Steps.{after}
use Rattle.asl_tree.specs.View.{typed_of, all_operands}
use Rattle.asl_expr.specs.CallViews.{all_given, replacing_of}
use Rattle.asl_expr.proofs.Stepping.{both_went, both_stop}
use Rattle.asl_expr.proofs.calls.function_called.Goals as goal

pub returns : goal.returns
returns c t s =
    both_went typed_of (both_fit t c.args.span c.args.signature.now (all_given c.args.given.given) (all_operands c.args.arguments) (replaced_by c.args.signature.now.params (all_given c.args.given.given)))
    (found_or (substitute (replaced_by c.args.signature.now.params (all_given c.args.given.given)) c.args.ty.now) T20 c.args.span)
    (λ U. finish_all c.args.class c.args.span (all_operands c.args.arguments) c.args.signature.now.class U (call_tree (own c.args.number) (replacing_of c.args.given) (all_operands c.args.arguments)))
    c.in_ok-ty.ty c.call_noted.result
    (subst (λ us. after (both_fit t c.args.span c.args.signature.now (all_given c.args.given.given) (all_operands us) (replaced_by c.args.signature.now.params (all_given c.args.given.given))) (found_or (substitute (replaced_by c.args.signature.now.params (all_given c.args.given.given)) c.args.ty.now) T20 c.args.span) ≡ Ok c.in_ok-ty.ty) c.as_slice.ensures (c.in_ok-ty.ensures t s)) (search rules)

pub returns-in_err-ty : goal.returns-in_err-ty
returns-in_err-ty c t s =
    let is : c.from_residual.result ≡ Err c.in_err-ty.field-0.0 = search rules in
    both_stop (λ (T : Ty). T) typed_of (both_fit t c.args.span c.args.signature.now (all_given c.args.given.given) (all_operands c.args.arguments) (replaced_by c.args.signature.now.params (all_given c.args.given.given)))
    (found_or (substitute (replaced_by c.args.signature.now.params (all_given c.args.given.given)) c.args.ty.now) T20 c.args.span)
    (λ U. finish_all c.args.class c.args.span (all_operands c.args.arguments) c.args.signature.now.class U (call_tree (own c.args.number) (replacing_of c.args.given) (all_operands c.args.arguments)))
    c.in_err-ty.field-0.0 c.from_residual.result is
    (subst (λ us. Met (λ (T : Ty). T) (Err c.in_err-ty.field-0.0) (after (both_fit t c.args.span c.args.signature.now (all_given c.args.given.given) (all_operands us) (replaced_by c.args.signature.now.params (all_given c.args.given.given))) (found_or (substitute (replaced_by c.args.signature.now.params (all_given c.args.given.given)) c.args.ty.now) T20 c.args.span))) c.as_slice.ensures (c.in_err-ty.ensures t s))
