use Rattle.std.proofs.Common.{rules, arith}
use Rattle.std.proofs.lemmas.Grind.{common_steps}
use Rattle.asl_parse_expr.specs.private.Code.{cursor_of}
use Rattle.asl_parse_stmt.proofs.Steps.{type_definition_is}
use Rattle.asl_parse_stmt.proofs.declarations.type_definition.Goals as goal

pub returns-in_err-type_expression : goal.returns-in_err-type_expression
returns-in_err-type_expression c =
    let e = type_definition_is c.args.depth (cursor_of c.args.tokens.now) in
    first_of (search rules, grind (arith, common_steps))

pub returns-in_ok-type_expression : goal.returns-in_ok-type_expression
returns-in_ok-type_expression c =
    let e = type_definition_is c.args.depth (cursor_of c.args.tokens.now) in
    first_of (search rules, grind (arith, common_steps))

pub returns-then-starts-2 : goal.returns-then-starts-2
returns-then-starts-2 c =
    let e = type_definition_is c.args.depth (cursor_of c.args.tokens.now) in
    first_of (search rules, grind (arith, common_steps))

pub returns-then-starts-3 : goal.returns-then-starts-3
returns-then-starts-3 c =
    let e = type_definition_is c.args.depth (cursor_of c.args.tokens.now) in
    first_of (search rules, grind (arith, common_steps))

pub returns-else-starts-3 : goal.returns-else-starts-3
returns-else-starts-3 c =
    let e = type_definition_is c.args.depth (cursor_of c.args.tokens.now) in
    first_of (search rules, grind (arith, common_steps))
