use Rattle.std.proofs.Common.{◌∙◌, arith}
use Rattle.asl_types.proofs.Falling.{tuple_higher}
use Rattle.asl_types.proofs.Seen.{same_seen}
use Rattle.asl_types.proofs.seeing.+see.Goals as goal

pub see-see_tuple-requires : goal.see-see_tuple-requires
see-see_tuple-requires t c =
    (omega (arith, tuple_higher c.form.result.now c.args.ty.now c.in-Tuple.parts c.as_slice.result.now c.form.ensures c.in-Tuple.is (c.as_slice.ensures ∙ c.get.ensures)), tt)

pub see-returns-then-not-holds_bits : goal.see-returns-then-not-holds_bits
see-returns-then-not-holds_bits t c = same_seen c.args.ty.now c.args.value.now c.holds_bits.result c.copy.result c.holds_bits.ensures c.if-not-holds_bits.true c.copy.ensures
