use Rattle.std.proofs.Common.{◌≡◌, [], map, ap, Ok, Err, rules, subst}
use Rattle.asl_rules.specs.expressions.Calls.{both_fit, called, replaced_by, replacing}
use Rattle.asl_rules.specs.runs.Trees.{own}
use Rattle.asl_rules.specs.declared.effect.Effect.{Effect}
use Rattle.asl_types.specs.private.Answers.{Met}
use Rattle.asl_tree.specs.View.{tree_of, all_operands}
use Rattle.asl_expr.specs.CallViews.{all_given, replacing_of, effect_of}
use Rattle.asl_widths.specs.private.Steps.{after}
use Rattle.asl_expr.proofs.CallArms.{procedure_is, procedure_refused}
use Rattle.asl_expr.proofs.calls.procedure_called.Goals as goal

pub returns : goal.returns
returns c t s =
    procedure_is (both_fit t c.args.span c.args.signature.now (all_given c.args.given.given) (all_operands c.args.arguments) (replaced_by c.args.signature.now.params (all_given c.args.given.given)))
    c.args.context.class c.args.span (all_operands c.args.arguments) c.args.signature.now.class (own c.args.number) (replacing_of c.args.given) c.in_ok-effect.effect _
    (subst (λ us. after (both_fit t c.args.span c.args.signature.now (all_given c.args.given.given) (all_operands us) (replaced_by c.args.signature.now.params (all_given c.args.given.given))) (effect_of c.args.context.class c.args.span (all_operands us) c.args.signature.now.class) ≡ Ok c.in_ok-effect.effect) c.as_slice.ensures (c.in_ok-effect.ensures t s)) (ap (λ p. called (own c.args.number) (replacing [] p.0 (map tree_of p.1)) (all_operands c.args.arguments) c.in_ok-effect.effect) c.into_parts-places.ensures)

pub returns-in_err-effect : goal.returns-in_err-effect
returns-in_err-effect c t s =
    let is : c.from_residual.result ≡ Err c.in_err-effect.field-0.0 = search rules in
    procedure_refused (both_fit t c.args.span c.args.signature.now (all_given c.args.given.given) (all_operands c.args.arguments) (replaced_by c.args.signature.now.params (all_given c.args.given.given)))
    c.args.context.class c.args.span (all_operands c.args.arguments) c.args.signature.now.class (own c.args.number) (replacing_of c.args.given) c.in_err-effect.field-0.0 c.from_residual.result is
    (subst (λ us. Met (λ (k : Effect). k) (Err c.in_err-effect.field-0.0) (after (both_fit t c.args.span c.args.signature.now (all_given c.args.given.given) (all_operands us) (replaced_by c.args.signature.now.params (all_given c.args.given.given))) (effect_of c.args.context.class c.args.span (all_operands us) c.args.signature.now.class))) c.as_slice.ensures (c.in_err-effect.ensures t s))
