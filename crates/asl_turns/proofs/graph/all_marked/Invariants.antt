use Rattle.std.proofs.Common.{◌≡◌, drop}
use Rattle.asl_turns.specs.Graphs.{all_marked}
use Rattle.asl_turns.proofs.graph.all_marked.Given as goal

abbrev pub invariant-loop-node : goal.invariant-loop-node
invariant-loop-node l = all_marked l.marks (drop l.node-index l.nodes) ≡ all_marked l.marks l.nodes
