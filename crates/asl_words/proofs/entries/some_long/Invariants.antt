use Rattle.std.proofs.Common.{◌≡◌, drop}
use Rattle.asl_rules.specs.runs.Words.{some_long}
use Rattle.asl_words.proofs.entries.some_long.Given as goal

abbrev pub invariant-loop-number : goal.invariant-loop-number
invariant-loop-number l = some_long (drop l.number l.words) ≡ some_long l.words
