use Rattle.std.proofs.Common.{rules, arith}
use Rattle.asl_branches.proofs.Listing.{tree_next}
use Rattle.asl_branches.proofs.lists.eval_all.Goals as goal

pub loop-e-preserved : goal.loop-e-preserved
loop-e-preserved g c = tree_next (g.N.Nodes.setting c.args.here.now) c.args.es.now c.loop-e.e-index c.e-item.result c.loop-e.xs _
    c.in_ok-x.x _ _ _ _ (omega (arith, c.loop-e-test.true)) c.e-item.is c.in_ok-x.ensures (search rules) c.loop-e.invariant
