use Rattle.std.proofs.Common.{refl}
use Rattle.asl_table.proofs.Listing.{width_front, table_more}
use Rattle.asl_table.proofs.live.table_live.Goals as goal

pub top_of-requires : goal.top_of-requires
top_of-requires c = width_front _ _ _ _ c.loop-mask-test.true c.loop-mask-item.is c.loop-mask.invariant.1.1

pub loop-mask-preserved : goal.loop-mask-preserved
loop-mask-preserved c =
    let h = table_more _ _ _ _ _ _ _ c.in_ok-push.ensures.items c.loop-mask-test.true c.loop-mask-item.is refl c.top_of.ensures (c.loop-mask.invariant.0, (c.loop-mask.invariant.1.0, c.loop-mask.invariant.1.1)) in
    (h.0, (h.1.0, h.1.1))
