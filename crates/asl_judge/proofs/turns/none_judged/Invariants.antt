use Rattle.std.proofs.Common.{◌≡◌, replicate}
use Rattle.asl_rules.specs.declarations.Turns.{Waiting}
use Rattle.asl_judge.specs.private.Outcomes.{all_judged}
use Rattle.asl_judge.proofs.turns.none_judged.Given as goal

abbrev pub invariant-loop : goal.invariant-loop
invariant-loop l = all_judged l.outcomes ≡ replicate l.counter Waiting
