use Rattle.std.proofs.Common.{◌≡◌, drop}
use Rattle.asl_names.specs.private.Components.{are_below}
use Rattle.asl_names.proofs.components.are_below.Given as goal

abbrev pub invariant-loop-node : goal.invariant-loop-node
invariant-loop-node l = are_below l.levels (drop l.node-index l.nodes) l.number ≡ are_below l.levels l.nodes l.number
