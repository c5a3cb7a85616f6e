use Rattle.asl_table.proofs.ReadMasks.{PatternsRead}
use Rattle.asl_table.proofs.cases.push_patterns.Given as goal

-- with those of the patterns left, these are those of all patterns
abbrev pub invariant-loop-pattern : goal.invariant-loop-pattern
invariant-loop-pattern l = PatternsRead l.number l.patterns l.pattern-index l.fn.masks.items l.masks.items
