use Rattle.std.proofs.Common.{rules, arith}
use Rattle.std.proofs.lemmas.Grind.{common_steps}
use Rattle.asl_parse_expr.specs.private.Code.{cursor_of}
use Rattle.asl_parse_stmt.proofs.Steps.{two_binders_is}
use Rattle.asl_parse_stmt.proofs.binders.two_binders.Goals as goal

pub returns-in_err-binder : goal.returns-in_err-binder
returns-in_err-binder c =
    let e = two_binders_is c.args.depth (cursor_of c.args.tokens.now) in
    first_of (search rules, grind (arith, common_steps))

pub returns-in_err-take : goal.returns-in_err-take
returns-in_err-take c =
    let e = two_binders_is c.args.depth (cursor_of c.args.tokens.now) in
    first_of (search rules, grind (arith, common_steps))

pub returns-in_err-binder-2 : goal.returns-in_err-binder-2
returns-in_err-binder-2 c =
    let e = two_binders_is c.args.depth (cursor_of c.args.tokens.now) in
    first_of (search rules, grind (arith, common_steps))

pub returns : goal.returns
returns c =
    let e = two_binders_is c.args.depth (cursor_of c.args.tokens.now) in
    first_of (search rules, grind (arith, common_steps))
