use Rattle.std.proofs.Common.{◌≡◌, drop}
use Rattle.asl_names.specs.private.Components.{has_level}
use Rattle.asl_names.proofs.components.has_level.Given as goal

abbrev pub invariant-loop-node : goal.invariant-loop-node
invariant-loop-node l = has_level l.levels (drop l.node-index l.nodes) l.number ≡ has_level l.levels l.nodes l.number
