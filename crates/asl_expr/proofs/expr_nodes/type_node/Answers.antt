use Rattle.asl_expr.proofs.Falling.{tuple_types, construct_types, call_types, slices_types}
use Rattle.asl_expr.proofs.expr_nodes.type_node.Goals as goal

pub tuple_expr-requires : goal.tuple_expr-requires
tuple_expr-requires g c = record { types = tuple_types _ _ _ _ _ _ c.in-Tuple.is c.as_slice-in-Tuple.ensures c.requires.types }

pub construct_expr-requires : goal.construct_expr-requires
construct_expr-requires g c = record { types = construct_types _ _ _ _ _ _ _ c.in-Construct.is c.as_slice-in-Construct.ensures c.requires.types }

pub call_expr-requires : goal.call_expr-requires
call_expr-requires g c = record { types = call_types _ _ _ _ _ _ _ _ c.in-Call.is c.as_slice-in-Call-2.ensures c.requires.types }

pub slices_expr-requires-clause-slices : goal.slices_expr-requires-clause-slices
slices_expr-requires-clause-slices g c = slices_types _ _ _ _ _ _ _ c.in-Slices.is c.as_slice-in-Slices.ensures c.requires.types
