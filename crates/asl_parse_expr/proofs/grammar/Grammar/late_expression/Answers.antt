use Rattle.std.proofs.Common.{rules, arith}
use Rattle.std.proofs.lemmas.Grind.{common_steps}
use Rattle.asl_parse_expr.specs.private.Code.{cursor_of}
use Rattle.asl_parse_expr.proofs.Tails.{late_expression_is}
use Rattle.asl_parse_expr.proofs.grammar.Grammar.late_expression.Goals as goal

pub returns-in_err-charge : goal.returns-in_err-charge
returns-in_err-charge g c =
    let e = late_expression_is c.args.self.now.depth c.args.from c.args.operator (cursor_of c.args.tokens.now) in
    first_of (search rules, grind (arith, common_steps))

pub returns-in_err-operand : goal.returns-in_err-operand
returns-in_err-operand g c =
    let e = late_expression_is c.args.self.now.depth c.args.from c.args.operator (cursor_of c.args.tokens.now) in
    first_of (search rules, grind (arith, common_steps))

pub returns-in_err-whole-2 : goal.returns-in_err-whole-2
returns-in_err-whole-2 g c =
    let e = late_expression_is c.args.self.now.depth c.args.from c.args.operator (cursor_of c.args.tokens.now) in
    first_of (search rules, grind (arith, common_steps))

pub returns : goal.returns
returns g c =
    let e = late_expression_is c.args.self.now.depth c.args.from c.args.operator (cursor_of c.args.tokens.now) in
    first_of (search rules, grind (arith, common_steps))
