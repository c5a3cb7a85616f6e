use Rattle.std.proofs.Common.{arith}
use Rattle.asl_turns.proofs.Placing.{but_next}
use Rattle.asl_turns.proofs.queue.Queue.look_at_each.Goals as goal

pub loop-node-preserved : goal.loop-node-preserved
loop-node-preserved c =
    let q = c.loop-node.self in
    let e = c.in_ok-look_at.ensures in
    but_next c.args.graph.now c.args.waiting.now c.args.settled.now q c.look_at.new.self c.args.nodes.now c.loop-node.node-index
    (omega arith)
    c.loop-node.invariant (record { only = e.only; placed = e.placed; others = e.others; same = e.same })
