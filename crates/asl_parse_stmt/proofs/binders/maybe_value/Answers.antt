use Rattle.std.proofs.Common.{rules, arith}
use Rattle.std.proofs.lemmas.Grind.{common_steps}
use Rattle.asl_grammar.specs.grammar.Rules.{no_value}
use Rattle.asl_parse_expr.specs.private.Code.{cursor_of}
use Rattle.asl_parse_stmt.proofs.Steps.{maybe_value_is}
use Rattle.asl_parse_stmt.proofs.binders.maybe_value.Goals as goal

pub returns-in_err-take : goal.returns-in_err-take
unfolding no_value
returns-in_err-take c =
    let e = maybe_value_is c.args.depth (cursor_of c.args.tokens.now) in
    first_of (search rules, grind (arith, common_steps))

pub returns-then-starts : goal.returns-then-starts
unfolding no_value
returns-then-starts c =
    let e = maybe_value_is c.args.depth (cursor_of c.args.tokens.now) in
    first_of (search rules, grind (arith, common_steps))

pub returns-in_err-value : goal.returns-in_err-value
unfolding no_value
returns-in_err-value c =
    let e = maybe_value_is c.args.depth (cursor_of c.args.tokens.now) in
    first_of (search rules, grind (arith, common_steps))

pub returns : goal.returns
unfolding no_value
returns c =
    let e = maybe_value_is c.args.depth (cursor_of c.args.tokens.now) in
    first_of (search rules, grind (arith, common_steps))
