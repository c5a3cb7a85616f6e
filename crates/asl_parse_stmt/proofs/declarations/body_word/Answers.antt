use Rattle.std.proofs.Common.{rules, arith}
use Rattle.std.proofs.lemmas.Grind.{common_steps}
use Rattle.asl_parse_expr.specs.private.Code.{cursor_of}
use Rattle.asl_parse_stmt.proofs.Steps.{body_word_is}
use Rattle.asl_parse_stmt.proofs.declarations.body_word.Goals as goal

pub returns-in_err-take : goal.returns-in_err-take
returns-in_err-take c =
    let e = body_word_is c.args.depth (cursor_of c.args.tokens.now) in
    first_of (search rules, grind (arith, common_steps))

pub returns-in_err-take-2 : goal.returns-in_err-take-2
returns-in_err-take-2 c =
    let e = body_word_is c.args.depth (cursor_of c.args.tokens.now) in
    first_of (search rules, grind (arith, common_steps))

pub returns-in_ok-take : goal.returns-in_ok-take
returns-in_ok-take c =
    let e = body_word_is c.args.depth (cursor_of c.args.tokens.now) in
    first_of (search rules, grind (arith, common_steps))

pub returns-in_ok-take-2 : goal.returns-in_ok-take-2
returns-in_ok-take-2 c =
    let e = body_word_is c.args.depth (cursor_of c.args.tokens.now) in
    first_of (search rules, grind (arith, common_steps))
