use Rattle.std.proofs.Common.{rules, arith}
use Rattle.std.proofs.lemmas.Grind.{common_steps}
use Rattle.asl_grammar.specs.grammar.Rules.{member_braces}
use Rattle.asl_parse_expr.specs.private.Code.{cursor_of}
use Rattle.asl_parse_stmt.proofs.Steps.{members_is}
use Rattle.asl_parse_stmt.proofs.formals.members.Goals as goal

pub returns-then-not-starts : goal.returns-then-not-starts
unfolding member_braces
returns-then-not-starts c =
    let e = members_is c.args.depth (cursor_of c.args.tokens.now) in
    first_of (search rules, grind (arith, common_steps))

pub returns-in_err-open : goal.returns-in_err-open
unfolding member_braces
returns-in_err-open c =
    let e = members_is c.args.depth (cursor_of c.args.tokens.now) in
    first_of (search rules, grind (arith, common_steps))

pub returns-in_err-found : goal.returns-in_err-found
unfolding member_braces
returns-in_err-found c =
    let e = members_is c.args.depth (cursor_of c.args.tokens.now) in
    first_of (search rules, grind (arith, common_steps))

pub returns-in_err-take : goal.returns-in_err-take
unfolding member_braces
returns-in_err-take c =
    let e = members_is c.args.depth (cursor_of c.args.tokens.now) in
    first_of (search rules, grind (arith, common_steps))

pub returns : goal.returns
unfolding member_braces
returns c =
    let e = members_is c.args.depth (cursor_of c.args.tokens.now) in
    first_of (search rules, grind (arith, common_steps))
