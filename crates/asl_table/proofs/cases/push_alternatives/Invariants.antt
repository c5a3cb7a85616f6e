use Rattle.asl_table.proofs.ReadMasks.{AlternativesRead}
use Rattle.asl_table.proofs.cases.push_alternatives.Given as goal

-- with those of the alternatives left, these are those of all alternatives
abbrev pub invariant-loop-number : goal.invariant-loop-number
invariant-loop-number l = AlternativesRead l.alternatives l.number l.fn.masks.items l.masks.items
