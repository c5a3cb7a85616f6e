use Rattle.asl_rules.specs.Tests.{Tests}
use Rattle.asl_types.specs.Suits.{Suits}
use Rattle.asl_turns.specs.Turns.{waits}
use Rattle.asl_judge.specs.private.Outcomes.{all_judged}
use Rattle.asl_judge.proofs.Steps.{IsState}
use Rattle.asl_judge.proofs.Taking.{Left}
use Rattle.asl_judge.proofs.turns.judge_in_turns.Given as goal

abbrev pub invariant-loop-node : goal.invariant-loop-node
invariant-loop-node l = record {
  state : IsState l.decls (all_judged l.progress.outcomes) l.progress.names l.turns;
  left : (t : Tests) → Suits t → Left t l.decls (all_judged l.progress.outcomes) (waits l.turns.waiting);
}

abbrev pub decreases-loop-node : goal.decreases-loop-node
decreases-loop-node l = waits l.turns.waiting
