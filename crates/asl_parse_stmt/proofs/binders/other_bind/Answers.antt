use Rattle.std.proofs.Common.{rules, arith}
use Rattle.std.proofs.lemmas.Grind.{common_steps}
use Rattle.asl_parse_expr.specs.private.Code.{cursor_of}
use Rattle.asl_parse_stmt.proofs.Steps.{other_bind_is}
use Rattle.asl_parse_stmt.proofs.binders.other_bind.Goals as goal

pub returns-in_err-no_binder : goal.returns-in_err-no_binder
returns-in_err-no_binder c =
    let e = other_bind_is c.args.depth (cursor_of c.args.tokens.now) in
    first_of (search rules, grind (arith, common_steps))

pub returns-in_ok-no_binder : goal.returns-in_ok-no_binder
returns-in_ok-no_binder c =
    let e = other_bind_is c.args.depth (cursor_of c.args.tokens.now) in
    first_of (search rules, grind (arith, common_steps))

pub returns-else-starts : goal.returns-else-starts
returns-else-starts c =
    let e = other_bind_is c.args.depth (cursor_of c.args.tokens.now) in
    first_of (search rules, grind (arith, common_steps))
