use Rattle.std.proofs.Common.{rules, arith}
use Rattle.std.proofs.lemmas.Grind.{common_steps}
use Rattle.asl_grammar.specs.grammar.Rules.{var_other}
use Rattle.asl_parse_expr.specs.private.Code.{cursor_of}
use Rattle.asl_parse_stmt.proofs.Steps.{var_tail_is}
use Rattle.asl_parse_stmt.proofs.binders.var_tail.Goals as goal

pub returns-then-starts : goal.returns-then-starts
unfolding var_other
returns-then-starts c =
    let e = var_tail_is c.args.depth (cursor_of c.args.tokens.now) in
    first_of (search rules, grind (arith, common_steps))

pub returns-in_err-bind : goal.returns-in_err-bind
unfolding var_other
returns-in_err-bind c =
    let e = var_tail_is c.args.depth (cursor_of c.args.tokens.now) in
    first_of (search rules, grind (arith, common_steps))

pub returns-in_err-typed : goal.returns-in_err-typed
unfolding var_other
returns-in_err-typed c =
    let e = var_tail_is c.args.depth (cursor_of c.args.tokens.now) in
    first_of (search rules, grind (arith, common_steps))

pub returns-in_err-init : goal.returns-in_err-init
unfolding var_other
returns-in_err-init c =
    let e = var_tail_is c.args.depth (cursor_of c.args.tokens.now) in
    first_of (search rules, grind (arith, common_steps))

pub returns : goal.returns
unfolding var_other
returns c =
    let e = var_tail_is c.args.depth (cursor_of c.args.tokens.now) in
    first_of (search rules, grind (arith, common_steps))
