use Rattle.asl_table.proofs.Pairing.{lows_next, lows_all}
use Rattle.asl_table.proofs.lowest.lows.Goals as goal

pub loop-alternative-preserved : goal.loop-alternative-preserved
loop-alternative-preserved c =
    lows_next _ _ _ _ _ _ c.in_ok-push.ensures.items c.loop-alternative-test.true c.loop-alternative-item.is c.lowest_of.ensures c.loop-alternative.invariant

pub returns : goal.returns
returns c = lows_all _ _ _ c.loop-alternative-test.false c.loop-alternative.invariant
