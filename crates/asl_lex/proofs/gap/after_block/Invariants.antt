use Rattle.std.proofs.Common.{◌≡◌, length}
use Rattle.asl_grammar.specs.lexemes.Gaps.{after_block}
use Rattle.asl_lex.proofs.gap.after_block.Given as goal

abbrev pub invariant-loop-rest : goal.invariant-loop-rest
invariant-loop-rest l = after_block l.rest ≡ after_block l.bytes

abbrev pub decreases-loop-rest : goal.decreases-loop-rest
decreases-loop-rest l = length l.rest
