use Rattle.std.proofs.Common.{rules, arith}
use Rattle.std.proofs.lemmas.Grind.{common_steps}
use Rattle.asl_parse_expr.specs.private.Code.{cursor_of}
use Rattle.asl_parse_expr.proofs.Steps.{two_types_is}
use Rattle.asl_parse_expr.proofs.grammar.Grammar.two_types.Goals as goal

pub returns-in_err-type_expression : goal.returns-in_err-type_expression
returns-in_err-type_expression g c =
    let e = two_types_is c.args.self.now.depth (cursor_of c.args.tokens.now) in
    first_of (search rules, grind (arith, common_steps))

pub returns-in_err-take : goal.returns-in_err-take
returns-in_err-take g c =
    let e = two_types_is c.args.self.now.depth (cursor_of c.args.tokens.now) in
    first_of (search rules, grind (arith, common_steps))

pub returns-in_err-type_expression-2 : goal.returns-in_err-type_expression-2
returns-in_err-type_expression-2 g c =
    let e = two_types_is c.args.self.now.depth (cursor_of c.args.tokens.now) in
    first_of (search rules, grind (arith, common_steps))

pub returns : goal.returns
returns g c =
    let e = two_types_is c.args.self.now.depth (cursor_of c.args.tokens.now) in
    first_of (search rules, grind (arith, common_steps))
