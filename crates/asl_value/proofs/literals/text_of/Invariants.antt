use Rattle.asl_value.proofs.LiteralLemmas.{BytesMade}
use Rattle.asl_value.proofs.literals.text_of.Given as goal

-- those made stand in front of those left
abbrev pub invariant-loop-digit : goal.invariant-loop-digit
invariant-loop-digit l = BytesMade l.digits l.digit-index l.bytes
