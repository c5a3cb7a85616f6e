use Rattle.std.proofs.Common.{rules, arith}
use Rattle.std.proofs.lemmas.Grind.{common_steps}
use Rattle.asl_parse_expr.specs.private.Code.{cursor_of}
use Rattle.asl_parse_stmt.proofs.Steps.{simple_statement_is}
use Rattle.asl_parse_stmt.proofs.statements.simple_statement.Goals as goal

pub returns-then-starts : goal.returns-then-starts
returns-then-starts c =
    let e = simple_statement_is c.args.depth (cursor_of c.args.tokens.now) in
    first_of (search rules, grind (arith, common_steps))

pub returns-then-starts-2 : goal.returns-then-starts-2
returns-then-starts-2 c =
    let e = simple_statement_is c.args.depth (cursor_of c.args.tokens.now) in
    first_of (search rules, grind (arith, common_steps))

pub returns-then-starts-3 : goal.returns-then-starts-3
returns-then-starts-3 c =
    let e = simple_statement_is c.args.depth (cursor_of c.args.tokens.now) in
    first_of (search rules, grind (arith, common_steps))

pub returns-then-starts-4 : goal.returns-then-starts-4
returns-then-starts-4 c =
    let e = simple_statement_is c.args.depth (cursor_of c.args.tokens.now) in
    first_of (search rules, grind (arith, common_steps))

pub returns-then-starts-5 : goal.returns-then-starts-5
returns-then-starts-5 c =
    let e = simple_statement_is c.args.depth (cursor_of c.args.tokens.now) in
    first_of (search rules, grind (arith, common_steps))

pub returns-then-starts-6 : goal.returns-then-starts-6
returns-then-starts-6 c =
    let e = simple_statement_is c.args.depth (cursor_of c.args.tokens.now) in
    first_of (search rules, grind (arith, common_steps))

pub returns-then-starts-7 : goal.returns-then-starts-7
returns-then-starts-7 c =
    let e = simple_statement_is c.args.depth (cursor_of c.args.tokens.now) in
    first_of (search rules, grind (arith, common_steps))

pub returns-then-starts-8 : goal.returns-then-starts-8
returns-then-starts-8 c =
    let e = simple_statement_is c.args.depth (cursor_of c.args.tokens.now) in
    first_of (search rules, grind (arith, common_steps))

pub returns-else-starts-8 : goal.returns-else-starts-8
returns-else-starts-8 c =
    let e = simple_statement_is c.args.depth (cursor_of c.args.tokens.now) in
    first_of (search rules, grind (arith, common_steps))
