use Rattle.std.proofs.Common.{to_z-of_z}
use Rattle.asl_value.proofs.InPlaces.{one_cut}
use Rattle.asl_value.proofs.places.read_integer.Goals as goal

pub loop-place-preserved : goal.loop-place-preserved
loop-place-preserved c =
    let part = simp (to_z-of_z, c.ranges.z) at c.in_ok-part.ensures in
    let before = simp (to_z-of_z, c.ranges.z) at c.loop-place.invariant in
    simp (to_z-of_z, c.ranges.z) (one_cut c.args.z _ c.loop-place.place-index c.place-item.result c.loop-place.made _ _ c.loop-place-test.true c.place-item.is part c.in_ok-made-2.ensures.bits before)
