use Rattle.asl_value.proofs.LiteralLemmas.{DigitsRead}
use Rattle.asl_value.proofs.literals.digits_of_content.Given as goal

-- those read stand in front of those left
abbrev pub invariant-loop-byte : goal.invariant-loop-byte
invariant-loop-byte l = DigitsRead l.bytes l.byte-index l.state l.digits
