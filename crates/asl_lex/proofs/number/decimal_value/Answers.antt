use Rattle.std.proofs.Common.{◌+◌, arith}
use Rattle.std.proofs.lemmas.Grind.{common_steps}
use Rattle.asl_grammar.proofs.lexemes.Values.{value_front, value_next}
use Rattle.asl_lex.proofs.number.decimal_value.Goals as goal

pub returns-then-value-digit : goal.returns-then-value-digit
returns-then-value-digit c =
    let front = value_front 10 (omega arith) c.args.text.now (c.loop-b.b-index + 1) in
    let next = value_next 10 c.args.text.now c.loop-b.b-index (omega arith) in
    grind (arith, common_steps)
