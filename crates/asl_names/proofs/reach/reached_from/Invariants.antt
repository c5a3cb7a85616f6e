use Rattle.std.proofs.Common.{◌≡◌, ◌-◌, length, true}
use Rattle.asl_turns.specs.Graphs.{row, all_marked}
use Rattle.asl_names.specs.private.Ways.{room, IsListed, ClosedTo, Reached}
use Rattle.asl_names.proofs.reach.reached_from.Given as goal

abbrev pub invariant-loop-at : goal.invariant-loop-at
invariant-loop-at l = record {
  listed : IsListed l.found.nodes l.found.marks;
  count : length l.found.marks ≡ length l.graph;
  start : all_marked l.found.marks (row l.graph l.start) ≡ true;
  closed : ClosedTo l.graph l.found.marks l.found.nodes l.at;
  reached : Reached l.graph l.start l.found.nodes;
}

abbrev pub decreases-loop-at : goal.decreases-loop-at
decreases-loop-at l = room l.found.nodes l.found.marks - l.at
