use Rattle.std.proofs.Common.{rules, arith}
use Rattle.std.proofs.lemmas.Grind.{common_steps}
use Rattle.asl_parse_expr.specs.private.Code.{cursor_of}
use Rattle.asl_parse_stmt.proofs.StatementSteps.{name_statement_steps}
use Rattle.asl_parse_stmt.proofs.simple.name_statement.Goals as goal

pub returns-in_err-name : goal.returns-in_err-name
returns-in_err-name c =
    let e = name_statement_steps c.args.depth (cursor_of c.args.tokens.now) in
    first_of (search rules, grind (arith, common_steps))

pub returns-in_err-parts : goal.returns-in_err-parts
returns-in_err-parts c =
    let e = name_statement_steps c.args.depth (cursor_of c.args.tokens.now) in
    first_of (search rules, grind (arith, common_steps))

pub returns-in_err-stored : goal.returns-in_err-stored
returns-in_err-stored c =
    let e = name_statement_steps c.args.depth (cursor_of c.args.tokens.now) in
    first_of (search rules, grind (arith, common_steps))

pub returns-in_ok-stored : goal.returns-in_ok-stored
returns-in_ok-stored c =
    let e = name_statement_steps c.args.depth (cursor_of c.args.tokens.now) in
    first_of (search rules, grind (arith, common_steps))

pub returns-in_err-suffixes : goal.returns-in_err-suffixes
returns-in_err-suffixes c =
    let e = name_statement_steps c.args.depth (cursor_of c.args.tokens.now) in
    first_of (search rules, grind (arith, common_steps))

pub returns-in_ok-suffixes : goal.returns-in_ok-suffixes
returns-in_ok-suffixes c =
    let e = name_statement_steps c.args.depth (cursor_of c.args.tokens.now) in
    first_of (search rules, grind (arith, common_steps))
