use Rattle.std.proofs.lemmas.Result.{on_ok_weaker}
use Rattle.asl_turns.proofs.Placing.{watching_placed, watching_others}
use Rattle.asl_turns.proofs.queue.Queue.look_at.Goals as goal

pub returns-in-Some-clause-placed : goal.returns-in-Some-clause-placed
returns-in-Some-clause-placed c =
    let q = c.args.self.now in
    let nodes = c.row-nodes.result.now in
    let e = c.in-Some.ensures in
    on_ok_weaker c.watch.result
    (λ w z. watching_placed c.args.graph.now c.args.settled.now q c.watch.new.self nodes c.in-Some.at c.args.node c.row-nodes.ensures e.0 e.1 w)
    c.watch.ensures.watchers

pub returns-in-Some-clause-others : goal.returns-in-Some-clause-others
returns-in-Some-clause-others c =
    let q = c.args.self.now in
    on_ok_weaker c.watch.result
    (λ w. watching_others c.args.graph.now c.args.settled.now q c.watch.new.self _ c.args.node c.watch.ensures.ready w)
    c.watch.ensures.watchers
