use Rattle.std.proofs.Common.{◌≡◌, length}
use Rattle.asl_turns.proofs.queue.no_watchers.Given as goal

abbrev pub invariant-loop-node : goal.invariant-loop-node
invariant-loop-node l = length l.watchers.items ≡ l._node
