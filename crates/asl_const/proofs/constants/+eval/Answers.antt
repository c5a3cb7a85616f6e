use Rattle.std.proofs.Common.{[], map, sym, ap, ◌∙◌, arith}
use Rattle.asl_bits.specs.declared.TheConstants.{WIDTH_LIMIT}
use Rattle.asl_rules.specs.declarations.Constants.{constant}
use Rattle.asl_rules.specs.runs.Plans.{Good}
use Rattle.asl_rules.specs.types.Shaped.{exprs_in, itself}
use Rattle.asl_value.specs.View.{value_of}
use Rattle.asl_const.specs.private.Finds.{known_after, known_given, known_pattern, known_slice}
use Rattle.asl_const.proofs.Arms.{gathered, construct_met, call_met, slices_met, in_met, element_met, then_met, else_met}
use Rattle.asl_const.proofs.Falling.{tuple_falls, construct_falls, params_fall, args_fall, slices_fall}
use Rattle.asl_const.proofs.constants.+eval.Goals as goal

pub eval-returns-then-branch : goal.eval-returns-then-branch
eval-returns-then-branch t c =
    then_met c.args.e.now c.in-Conditional.e c.get-in-Conditional.result.now c.in-Conditional.a c.get-then-branch.result.now c.in-Conditional.b c.in-Conditional.span c.args.names.now (value_of c.in_ok-x-in-Conditional.x) c.branch-alloc.result
    c.in-Conditional.is c.get-in-Conditional.ensures c.in_ok-x-in-Conditional.ensures (c.in_ok-truth_of-in-Conditional.ensures ∙ ap (λ b. Good b) c.if-branch.true) c.get-then-branch.ensures
    (c.branch-alloc.ensures (constant WIDTH_LIMIT c.get-then-branch.result.now c.args.names.now) c.eval-then-branch.ensures)

pub eval-returns-else-branch : goal.eval-returns-else-branch
eval-returns-else-branch t c =
    else_met c.args.e.now c.in-Conditional.e c.get-in-Conditional.result.now c.in-Conditional.a c.in-Conditional.b c.get-else-branch.result.now c.in-Conditional.span c.args.names.now (value_of c.in_ok-x-in-Conditional.x) c.branch-alloc-else-branch.result
    c.in-Conditional.is c.get-in-Conditional.ensures c.in_ok-x-in-Conditional.ensures (c.in_ok-truth_of-in-Conditional.ensures ∙ ap (λ b. Good b) c.if-branch.false) c.get-else-branch.ensures
    (c.branch-alloc-else-branch.ensures (constant WIDTH_LIMIT c.get-else-branch.result.now c.args.names.now) c.eval-else-branch.ensures)

pub eval-returns-in_ok-inside-in-Construct : goal.eval-returns-in_ok-inside-in-Construct
eval-returns-in_ok-inside-in-Construct t c =
    construct_met c.args.e.now c.in-Construct.span c.in-Construct.name c.as_slice-in-Construct-2.result.now c.in-Construct.fields c.as_slice-fields.result.now c.args.names.now c.construct_named.result
    c.in-Construct.is (cc c.as_slice-in-Construct-2.ensures) c.as_slice-fields.ensures
    (c.construct_named.ensures (exprs_in itself (map known_given c.as_slice-fields.result.now)) c.args.names.now
    (gathered c.eval_all-values.result c.as_slice-in-Construct.result.now c.in_ok-inside-in-Construct.inside _ c.args.names.now (cc c.as_slice-in-Construct.ensures) c.in_ok-inside-in-Construct.ensures.values c.eval_all-values.ensures))

pub eval-returns-in_ok-args-in-Call : goal.eval-returns-in_ok-args-in-Call
eval-returns-in_ok-args-in-Call t c =
    call_met c.args.e.now c.in-Call.span c.in-Call.field-1 c.in-Call.params c.as_slice-in-Call.result.now c.in-Call.args c.as_slice-in-Call-2.result.now c.args.names.now c.barred.result
    c.in-Call.is c.as_slice-in-Call.ensures c.as_slice-in-Call-2.ensures
    (c.barred.ensures (known_after [] (map (constant WIDTH_LIMIT) c.as_slice-in-Call.result.now) c.args.names.now) (known_after [] (map (constant WIDTH_LIMIT) c.as_slice-in-Call-2.result.now) c.args.names.now)
    (gathered c.eval_all-params.result c.as_slice-in-Call-3.result.now c.in_ok-params-in-Call.params _ c.args.names.now (cc c.as_slice-in-Call-3.ensures) c.in_ok-params-in-Call.ensures.values c.eval_all-params.ensures)
    (gathered c.eval_all-in-Call.result c.as_slice-in-Call-4.result.now c.in_ok-args-in-Call.args _ c.args.names.now (cc c.as_slice-in-Call-4.ensures) c.in_ok-args-in-Call.ensures.values c.eval_all-in-Call.ensures))

pub eval-returns-in_ok-x-in-Slices : goal.eval-returns-in_ok-x-in-Slices
eval-returns-in_ok-x-in-Slices t c =
    slices_met c.args.e.now c.in-Slices.a c.get-in-Slices.result.now c.in-Slices.span c.in-Slices.slices c.as_slice-slices.result.now c.args.names.now (value_of c.in_ok-x-in-Slices.x) c.sliced.result
    c.in-Slices.is c.get-in-Slices.ensures c.as_slice-slices.ensures c.in_ok-x-in-Slices.ensures
    (c.sliced.ensures (exprs_in itself (map known_slice c.as_slice-slices.result.now)) c.args.names.now
    (gathered c.eval_all-values-in-Slices.result c.as_slice-in-Slices.result.now c.in_ok-inside-in-Slices.inside _ c.args.names.now (cc c.as_slice-in-Slices.ensures) c.in_ok-inside-in-Slices.ensures.values c.eval_all-values-in-Slices.ensures))

pub eval-returns-in_ok-x-in-Element : goal.eval-returns-in_ok-x-in-Element
eval-returns-in_ok-x-in-Element t c =
    element_met c.args.e.now c.in-Element.a c.get-in-Element.result.now c.in-Element.i c.get-in-Element-2.result.now c.in-Element.span c.args.names.now (value_of c.in_ok-x-in-Element.x) c.element.result
    c.in-Element.is c.get-in-Element.ensures c.get-in-Element-2.ensures c.in_ok-x-in-Element.ensures
    (c.element.ensures (constant WIDTH_LIMIT c.get-in-Element-2.result.now) c.args.names.now c.eval-in-Element-2.ensures)

pub eval-returns-in_ok-x-in-In : goal.eval-returns-in_ok-x-in-In
eval-returns-in_ok-x-in-In t c =
    in_met c.args.e.now c.in-In.a c.get-in-In-2.result.now c.in-In.field-0 c.in-In.pattern c.get-in-In-3.result.now c.args.names.now (value_of c.in_ok-x-in-In.x) c.is_in.result
    c.in-In.is c.get-in-In-2.ensures c.get-in-In-3.ensures c.in_ok-x-in-In.ensures
    (c.is_in.ensures c.in-In.field-0 ((known_pattern c.get-in-In-3.result.now).exprs) c.args.names.now
    (gathered c.eval_all-values-in-In.result c.as_slice-in-In.result.now c.in_ok-inside-in-In.inside _ c.args.names.now (cc c.as_slice-in-In.ensures)
    (c.in_ok-inside-in-In.ensures.values ∙ ap (λ p. (known_pattern p).exprs) (c.get-in-In.ensures ∙ sym c.get-in-In-3.ensures)) c.eval_all-values-in-In.ensures))

-- ---- what is gathered is less deep

pub eval-eval_all-requires : goal.eval-eval_all-requires
eval-eval_all-requires t c =
    (omega (arith, tuple_falls c.args.e.now c.in-Tuple.field-0 c.in-Tuple.parts c.as_slice-in-Tuple.result.now c.as_slice-in-Tuple-2.result.now c.in_ok-inside-in-Tuple.inside c.in-Tuple.is (cc c.as_slice-in-Tuple.ensures) (cc c.as_slice-in-Tuple-2.ensures) c.in_ok-inside-in-Tuple.ensures.depth), tt)

pub eval-eval_all-values-requires : goal.eval-eval_all-values-requires
eval-eval_all-values-requires t c =
    (omega (arith, construct_falls c.args.e.now c.in-Construct.span c.in-Construct.name c.in-Construct.fields c.as_slice-fields.result.now c.as_slice-in-Construct.result.now c.in_ok-inside-in-Construct.inside c.in-Construct.is c.as_slice-fields.ensures (cc c.as_slice-in-Construct.ensures) c.in_ok-inside-in-Construct.ensures.depth), tt)

pub eval-eval_all-params-requires : goal.eval-eval_all-params-requires
eval-eval_all-params-requires t c =
    (omega (arith, params_fall c.args.e.now c.in-Call.span c.in-Call.field-1 c.in-Call.params c.in-Call.args c.as_slice-in-Call.result.now c.as_slice-in-Call-3.result.now c.in_ok-params-in-Call.params c.in-Call.is c.as_slice-in-Call.ensures (cc c.as_slice-in-Call-3.ensures) c.in_ok-params-in-Call.ensures.depth), tt)

pub eval-eval_all-requires-in-Call : goal.eval-eval_all-requires-in-Call
eval-eval_all-requires-in-Call t c =
    (omega (arith, args_fall c.args.e.now c.in-Call.span c.in-Call.field-1 c.in-Call.params c.in-Call.args c.as_slice-in-Call-2.result.now c.as_slice-in-Call-4.result.now c.in_ok-args-in-Call.args c.in-Call.is c.as_slice-in-Call-2.ensures (cc c.as_slice-in-Call-4.ensures) c.in_ok-args-in-Call.ensures.depth), tt)

pub eval-eval_all-values-requires-in-Slices : goal.eval-eval_all-values-requires-in-Slices
eval-eval_all-values-requires-in-Slices t c =
    (omega (arith, slices_fall c.args.e.now c.in-Slices.span c.in-Slices.a c.in-Slices.slices c.as_slice-slices.result.now c.as_slice-in-Slices.result.now c.in_ok-inside-in-Slices.inside c.in-Slices.is c.as_slice-slices.ensures (cc c.as_slice-in-Slices.ensures) c.in_ok-inside-in-Slices.ensures.depth), tt)
