use Rattle.std.proofs.Common.{List, ℕ, ◌≤◌, length}
use Rattle.asl_grammar.specs.lexemes.Gaps.{Gap}
use Rattle.asl_lex.proofs.gap.after_gap.Given as goal

abbrev pub invariant-loop-next : goal.invariant-loop-next
invariant-loop-next l = record {
  gap : (end : List ℕ) → Gap l.rest end → Gap l.bytes end;
  fits : length l.rest ≤ length l.bytes;
}

abbrev pub decreases-loop-next : goal.decreases-loop-next
decreases-loop-next l = length l.rest
