use Rattle.asl_names.proofs.ComponentLemmas.{FallingTo}
use Rattle.asl_names.proofs.components.is_falling.Given as goal

abbrev pub invariant-loop-node : goal.invariant-loop-node
invariant-loop-node l = FallingTo l.graph l.levels l.node
