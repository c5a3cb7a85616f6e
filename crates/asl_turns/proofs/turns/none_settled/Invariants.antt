use Rattle.std.proofs.Common.{◌≡◌, ◌++◌, drop}
use Rattle.asl_turns.specs.Turns.{none_settled}
use Rattle.asl_turns.proofs.turns.none_settled.Given as goal

abbrev pub invariant-loop-row : goal.invariant-loop-row
invariant-loop-row l = l.marks ++ none_settled (drop l._row-index l.graph) ≡ none_settled l.graph
