use Rattle.std.proofs.Common.{length, sym, ap, ◌∙◌, arith}
use Rattle.asl_bits.specs.declared.TheConstants.{WIDTH_LIMIT}
use Rattle.asl_rules.specs.runs.Plans.{Good}
use Rattle.asl_rules.specs.values.Values as values
use Rattle.asl_value.specs.View.{value_of}
use Rattle.asl_shape.proofs.AlikeFirsts.{all_first}
use Rattle.asl_types.proofs.AlikeLemmas.{mark_of, marked}
use Rattle.asl_types.proofs.Falling.{tuple_higher}
use Rattle.asl_shape.proofs.FieldsFalling.{record_higher, exception_higher}
use Rattle.asl_shape.proofs.FirstFields.{fields_first, field_fails}
use Rattle.asl_shape.proofs.firsts.+first_value.Goals as goal

pub first_value-first_record-requires : goal.first_value-first_record-requires
first_value-first_record-requires t c =
    (omega (arith, record_higher c.form.result.now c.args.ty.now c.in-Record.name c.in-Record.fields c.as_slice-in-Record.result.now c.form.ensures c.in-Record.is (c.as_slice-in-Record.ensures ∙ c.get-in-Record.ensures)), tt)

pub first_value-first_exception-requires : goal.first_value-first_exception-requires
first_value-first_exception-requires t c =
    (omega (arith, exception_higher c.form.result.now c.args.ty.now c.in-Exception.name c.in-Exception.fields c.as_slice-in-Exception.result.now c.form.ensures c.in-Exception.is (c.as_slice-in-Exception.ensures ∙ c.get-in-Exception.ensures)), tt)

pub first_value-first_tuple-requires : goal.first_value-first_tuple-requires
first_value-first_tuple-requires t c =
    (omega (arith, tuple_higher c.form.result.now c.args.ty.now c.in-Tuple.parts c.as_slice-parts.result.now c.form.ensures c.in-Tuple.is (c.as_slice-parts.ensures ∙ c.get-in-Tuple.ensures)), tt)

pub first_value-first_alike-requires : goal.first_value-first_alike-requires
first_value-first_alike-requires t c = (
  omega (arith, tuple_higher c.form.result.now c.args.ty.now c.in-Tuple.parts c.as_slice-parts.result.now c.form.ensures c.in-Tuple.is (c.as_slice-parts.ensures ∙ c.get-in-Tuple.ensures)),
  marked c.is_alike.result _ (sym c.if-is_alike.true) (mark_of c.is_alike.result c.form.result.now c.args.ty.now c.in-Tuple.parts c.as_slice-parts.result.now c.form.ensures c.in-Tuple.is (c.as_slice-parts.ensures ∙ c.get-in-Tuple.ensures) c.is_alike.ensures),
)

pub first_fields-returns-in-Err : goal.first_fields-returns-in-Err
first_fields-returns-in-Err t c =
    field_fails WIDTH_LIMIT c.args.span c.args.fields.now c.loop-field.field-index c.field-item.result c.loop-field.made c.in-Err.e (fields_first WIDTH_LIMIT c.args.span c.args.fields.now) c.loop-field-test.true c.field-item.is c.in-Err.ensures c.loop-field.invariant

pub first_alike-returns-in_ok-all-in-Some : goal.first_alike-returns-in_ok-all-in-Some
first_alike-returns-in_ok-all-in-Some t c =
    all_first WIDTH_LIMIT c.args.span c.in-Some.first.now c.in-Some.field-0-1.now c.args.parts.now c.in_ok-first_value-in-Some.field-0 c.in_ok-made-in-Some.made c.in-Some.ensures.cases.0 c.requires c.in_ok-first_value-in-Some.ensures
    (c.in_ok-made-in-Some.ensures ∙ ap (λ x. values.repeated (length c.args.parts.now) (value_of x)) (c.get.ensures ∙ c.new-part.ensures))
    ∙ ap Good (sym c.in_ok-all-in-Some.ensures)
