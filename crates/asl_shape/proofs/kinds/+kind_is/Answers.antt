use Rattle.std.proofs.Common.{◌∙◌, arith}
use Rattle.asl_rules.specs.types.Types.{kinds, kinds_eq}
use Rattle.asl_types.specs.View.{parts_of}
use Rattle.asl_types.proofs.Falling.{tuple_higher}
use Rattle.asl_value.specs.View.{all_kinds}
use Rattle.asl_shape.proofs.ValueKinds.{kinds_left}
use Rattle.asl_shape.proofs.kinds.+kind_is.Goals as goal

pub kinds_are-returns : goal.kinds_are-returns
kinds_are-returns t c = kinds_left c.is_empty.result c.loop-part.rest.now c.args.parts.now c.loop-part.part-index (kinds_eq (all_kinds c.args.kinds.now) (kinds (parts_of c.args.parts.now))) (omega arith) c.is_empty.ensures c.loop-part.invariant

pub kind_is-kinds_are-requires : goal.kind_is-kinds_are-requires
kind_is-kinds_are-requires t c =
    (omega (arith, tuple_higher c.form.result.now c.args.ty.now c.in-Tuple.parts c.as_slice-in-Tuples.result.now c.form.ensures c.in-Tuple.is (c.as_slice-in-Tuples.ensures ∙ c.get-in-Tuples.ensures)), tt)
