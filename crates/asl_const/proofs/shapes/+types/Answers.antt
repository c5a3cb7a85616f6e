use Rattle.asl_const.proofs.ShapesInOrder.{tuple_written}
use Rattle.asl_const.proofs.shapes.+types.Goals as goal

pub type_shape-returns-in_ok-type_shapes-in-TupleType : goal.type_shape-returns-in_ok-type_shapes-in-TupleType
type_shape-returns-in_ok-type_shapes-in-TupleType t c =
    tuple_written _ c.in-TupleType.field-0 c.in-TupleType.parts c.as_slice-in-TupleType.result.now _ c.in_ok-type_shapes-in-TupleType.field-0 _ c.in-TupleType.is c.as_slice-in-TupleType.ensures c.in_ok-type_shapes-in-TupleType.ensures c.tuple_shape.ensures
