use Rattle.std.proofs.Common.{◌≡◌, drop}
use Rattle.asl_rules.specs.runs.Words.{some_short}
use Rattle.asl_words.proofs.entries.some_short.Given as goal

abbrev pub invariant-loop-number : goal.invariant-loop-number
invariant-loop-number l = some_short (drop l.number l.words) ≡ some_short l.words
