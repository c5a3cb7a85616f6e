use Rattle.std.proofs.Common.{◌≡◌, drop}
use Rattle.asl_turns.specs.Graphs.{all_marked}
use Rattle.asl_turns.proofs.queue.unsettled_from.Given as goal

abbrev pub invariant-loop-at : goal.invariant-loop-at
invariant-loop-at l = all_marked l.settled (drop l.from l.nodes) ≡ all_marked l.settled (drop l.at l.nodes)
