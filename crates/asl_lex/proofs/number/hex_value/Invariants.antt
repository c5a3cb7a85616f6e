use Rattle.std.proofs.Common.{◌≡◌, ◌<◌, ◌^◌, take}
use Rattle.asl_grammar.specs.lexemes.Bytes.{value_of}
use Rattle.asl_lex.proofs.number.hex_value.Given as goal

abbrev pub invariant-loop-b : goal.invariant-loop-b
invariant-loop-b l = (l.value ≡ value_of 16 (take l.b-index l.text)) × (l.value < 2 ^ 127)
