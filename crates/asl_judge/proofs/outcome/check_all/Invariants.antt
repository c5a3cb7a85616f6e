use Rattle.std.proofs.Common.{◌≡◌, drop}
use Rattle.asl_rules.specs.declarations.Turns.{faults_rule}
use Rattle.asl_judge.specs.private.Outcomes.{all_judged}
use Rattle.asl_judge.proofs.outcome.check_all.Given as goal

abbrev pub invariant-loop-outcome : goal.invariant-loop-outcome
invariant-loop-outcome l = faults_rule (all_judged (drop l.outcome-index l.outcomes)) ≡ faults_rule (all_judged l.outcomes)
