use Rattle.std.proofs.Common.{rules, arith}
use Rattle.std.proofs.lemmas.Grind.{common_steps}
use Rattle.asl_grammar.specs.grammar.Rules.{some_members, no_members}
use Rattle.asl_parse_expr.specs.private.Code.{cursor_of}
use Rattle.asl_parse_stmt.proofs.Steps.{maybe_some_members_is}
use Rattle.asl_parse_stmt.proofs.formals.maybe_some_members.Goals as goal

pub returns-then-not-starts : goal.returns-then-not-starts
unfolding some_members no_members
returns-then-not-starts c =
    let e = maybe_some_members_is c.args.depth (cursor_of c.args.tokens.now) in
    first_of (search rules, grind (arith, common_steps))

pub returns-in_err-take : goal.returns-in_err-take
unfolding some_members no_members
returns-in_err-take c =
    let e = maybe_some_members_is c.args.depth (cursor_of c.args.tokens.now) in
    first_of (search rules, grind (arith, common_steps))

pub returns-then-starts : goal.returns-then-starts
unfolding some_members no_members
returns-then-starts c =
    let e = maybe_some_members_is c.args.depth (cursor_of c.args.tokens.now) in
    first_of (search rules, grind (arith, common_steps))

pub returns : goal.returns
unfolding some_members no_members
returns c =
    let e = maybe_some_members_is c.args.depth (cursor_of c.args.tokens.now) in
    first_of (search rules, grind (arith, common_steps))
