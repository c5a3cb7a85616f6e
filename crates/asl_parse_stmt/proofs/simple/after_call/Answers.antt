use Rattle.std.proofs.Common.{rules, arith}
use Rattle.std.proofs.lemmas.Grind.{common_steps}
use Rattle.asl_grammar.specs.grammar.Rules.{call_ends}
use Rattle.asl_parse_expr.specs.private.Code.{cursor_of}
use Rattle.asl_parse_stmt.proofs.Steps.{after_call_is}
use Rattle.asl_parse_stmt.proofs.simple.after_call.Goals as goal

pub returns-in_err-take : goal.returns-in_err-take
unfolding call_ends
returns-in_err-take c =
    let e = after_call_is c.args.depth (cursor_of c.args.tokens.now) in
    first_of (search rules, grind (arith, common_steps))

pub returns-in_ok-take : goal.returns-in_ok-take
unfolding call_ends
returns-in_ok-take c =
    let e = after_call_is c.args.depth (cursor_of c.args.tokens.now) in
    first_of (search rules, grind (arith, common_steps))

pub returns-in_err-assigned : goal.returns-in_err-assigned
returns-in_err-assigned c =
    let e = after_call_is c.args.depth (cursor_of c.args.tokens.now) in
    first_of (search rules, grind (arith, common_steps))

pub returns-in_ok-assigned : goal.returns-in_ok-assigned
returns-in_ok-assigned c =
    let e = after_call_is c.args.depth (cursor_of c.args.tokens.now) in
    first_of (search rules, grind (arith, common_steps))
