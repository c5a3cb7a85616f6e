use Rattle.std.proofs.Common.{drop}
use Rattle.asl_turns.specs.private.Queues.{IsQueueBut}
use Rattle.asl_turns.proofs.queue.Queue.look_at_each.Given as goal

abbrev pub invariant-loop-node : goal.invariant-loop-node
invariant-loop-node l = IsQueueBut l.graph l.waiting l.settled l.self (drop l.node-index l.nodes)
