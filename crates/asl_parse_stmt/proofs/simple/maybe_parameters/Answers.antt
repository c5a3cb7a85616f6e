use Rattle.std.proofs.Common.{rules, arith}
use Rattle.std.proofs.lemmas.Grind.{common_steps}
use Rattle.asl_grammar.specs.grammar.Rules.{parameters}
use Rattle.asl_parse_expr.specs.private.Code.{cursor_of}
use Rattle.asl_parse_stmt.proofs.Steps.{maybe_parameters_is}
use Rattle.asl_parse_stmt.proofs.simple.maybe_parameters.Goals as goal

pub returns-then-not-starts : goal.returns-then-not-starts
unfolding parameters
returns-then-not-starts c =
    let e = maybe_parameters_is c.args.depth (cursor_of c.args.tokens.now) in
    first_of (search rules, grind (arith, common_steps))

pub returns-in_err-open : goal.returns-in_err-open
unfolding parameters
returns-in_err-open c =
    let e = maybe_parameters_is c.args.depth (cursor_of c.args.tokens.now) in
    first_of (search rules, grind (arith, common_steps))

pub returns-in_err-found : goal.returns-in_err-found
unfolding parameters
returns-in_err-found c =
    let e = maybe_parameters_is c.args.depth (cursor_of c.args.tokens.now) in
    first_of (search rules, grind (arith, common_steps))

pub returns-in_err-take : goal.returns-in_err-take
unfolding parameters
returns-in_err-take c =
    let e = maybe_parameters_is c.args.depth (cursor_of c.args.tokens.now) in
    first_of (search rules, grind (arith, common_steps))

pub returns : goal.returns
unfolding parameters
returns c =
    let e = maybe_parameters_is c.args.depth (cursor_of c.args.tokens.now) in
    first_of (search rules, grind (arith, common_steps))
