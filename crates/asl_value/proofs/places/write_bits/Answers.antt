use Rattle.std.proofs.Common.{refl}
use Rattle.asl_value.proofs.InPlaces.{one_put}
use Rattle.asl_value.proofs.places.write_bits.Goals as goal

pub loop-place-preserved : goal.loop-place-preserved
loop-place-preserved c =
    one_put _ _ _ _ _ _ c.in-Some.width _ _ c.place-item.result c.loop-place-test.true c.place-item.is c.in-Some.ensures.0 refl c.in_ok-made-in-Some.ensures c.loop-place.invariant
