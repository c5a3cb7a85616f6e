use Rattle.std.proofs.Common.{◌≡◌, length}
use Rattle.asl_names.specs.private.Ways.{room, IsListed, MarkedMore, Goes, MarkedTo}
use Rattle.asl_names.proofs.reach.find_all.Given as goal

abbrev pub invariant-loop-node : goal.invariant-loop-node
invariant-loop-node l = record {
  listed : IsListed l.found.nodes l.found.marks;
  count : length l.found.marks ≡ length l.fn.found.marks;
  room : room l.found.nodes l.found.marks ≡ room l.fn.found.nodes l.fn.found.marks;
  more : MarkedMore l.fn.found.marks l.found.marks;
  marked : MarkedTo l.found.marks l.nodes l.node-index;
  nodes : Goes l.fn.found.nodes l.nodes l.found.nodes;
}
