use Rattle.std.proofs.Common.{◌∙◌, arith}
use Rattle.asl_types.proofs.Falling.{tuple_higher}
use Rattle.asl_types.proofs.substitute.+substitute.Goals as goal

pub substitute-substitute_parts-requires : goal.substitute-substitute_parts-requires
substitute-substitute_parts-requires t c =
    (omega (arith, tuple_higher c.form.result.now c.args.ty.now c.in-Tuple.parts c.as_slice.result.now c.form.ensures c.in-Tuple.is (c.as_slice.ensures ∙ c.get-in-Tuple.ensures)), tt)
