use Rattle.asl_turns.proofs.Settling.{settled_but}
use Rattle.asl_turns.proofs.turns.Turns.settle.Goals as goal

pub look_at_each-requires : goal.look_at_each-requires
look_at_each-requires c =
    let i = c.self.inside in
    let t = c.take_watchers-watchers in
    let e = t.ensures in
    rw (c.as_slice.ensures, c.as_slice-2.ensures, c.as_slice-3.ensures, c.put.ensures, c.as_slice-4.ensures)
    (settled_but i.graph i.settled c.args.node i.waiting i.queue t.new.self t.result c.self.invariant e.ready e.watchers e.taken)
