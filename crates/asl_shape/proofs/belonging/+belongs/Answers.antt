use Rattle.std.proofs.Common.{◌∙◌, arith}
use Rattle.asl_types.proofs.Falling.{tuple_higher}
use Rattle.asl_shape.proofs.FieldsFalling.{record_higher, exception_higher}
use Rattle.asl_shape.proofs.Having.{fields_at, parts_at, fields_left, parts_left}
use Rattle.asl_shape.proofs.belonging.+belongs.Goals as goal

pub fields_belong-returns : goal.fields_belong-returns
fields_belong-returns t c = fields_left c.is_empty.result c.loop-field.rest.now c.args.fields.now c.loop-field.field-index (fields_at c.args.given.now c.args.fields.now) (omega arith) c.is_empty.ensures c.loop-field.invariant

pub parts_belong-returns : goal.parts_belong-returns
parts_belong-returns t c = parts_left c.is_empty.result c.loop-part.rest.now c.args.parts.now c.loop-part.part-index (parts_at c.args.given.now c.args.parts.now) (omega arith) c.is_empty.ensures c.loop-part.invariant

pub is_of-record_belongs-requires : goal.is_of-record_belongs-requires
is_of-record_belongs-requires t c =
    (omega (arith, record_higher c.form.result.now c.args.ty.now c.in-Record.name c.in-Record.fields c.as_slice-in-Record-2.result.now c.form.ensures c.in-Record.is (c.as_slice-in-Record-2.ensures ∙ c.get-in-Record-2.ensures)), tt)

pub is_of-exception_belongs-requires : goal.is_of-exception_belongs-requires
is_of-exception_belongs-requires t c =
    (omega (arith, exception_higher c.form.result.now c.args.ty.now c.in-Exception.name c.in-Exception.fields c.as_slice-in-Exception-2.result.now c.form.ensures c.in-Exception.is (c.as_slice-in-Exception-2.ensures ∙ c.get-in-Exception-2.ensures)), tt)

pub is_of-tuple_belongs-requires : goal.is_of-tuple_belongs-requires
is_of-tuple_belongs-requires t c =
    (omega (arith, tuple_higher c.form.result.now c.args.ty.now c.in-Tuple.parts c.as_slice-in-Tuple.result.now c.form.ensures c.in-Tuple.is (c.as_slice-in-Tuple.ensures ∙ c.get-in-Tuple.ensures)), tt)
