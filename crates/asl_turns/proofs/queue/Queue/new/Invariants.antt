use Rattle.std.proofs.Common.{◌≡◌, ℕ, ◌<◌, length}
use Rattle.asl_turns.specs.private.Queues.{Waits, OnlyReady, IsPlaced}
use Rattle.asl_turns.proofs.queue.Queue.new.Given as goal

abbrev pub invariant-loop-node : goal.invariant-loop-node
invariant-loop-node l = record {
  only : OnlyReady l.graph l.waiting l.settled l.queue;
  placed : (n : ℕ) → n < l.node → Waits l.graph l.waiting n → IsPlaced l.graph l.settled l.queue n;
  same : length l.queue.watchers.items ≡ length l.settled;
}
