-- What came of declarations, in the rules and in code.
use Rattle.std.specs.Prelude.{List, map}
use Rattle.asl_rules.specs.declarations.Turns.{Judged, Waiting, Fine, Faulty}
use Rattle.asl_judge.specs.declared.outcome.Outcome.{Outcome}
use Rattle.asl_judge.specs.declared.outcome.Outcome.TheVariants as outcome
use Rattle.asl_judge.specs.private.Brought.{brought_of}

abbrev pub judged_of : Outcome → Judged
judged_of outcome.Waiting = Waiting
judged_of (outcome.Fine b) = Fine (brought_of b)
judged_of (outcome.Faulty f) = Faulty f

abbrev pub all_judged : List Outcome → List Judged
all_judged os = map judged_of os
