use Rattle.std.proofs.Common.{rules, arith}
use Rattle.std.proofs.lemmas.Grind.{common_steps}
use Rattle.asl_grammar.specs.grammar.Rules.{else_block}
use Rattle.asl_parse_expr.specs.private.Code.{cursor_of}
use Rattle.asl_parse_stmt.proofs.Steps.{maybe_else_is}
use Rattle.asl_parse_stmt.proofs.bodies.Bodies.maybe_else.Goals as goal

pub returns-then-not-starts : goal.returns-then-not-starts
unfolding else_block
returns-then-not-starts g c =
    let e = maybe_else_is c.args.self.now.depth (cursor_of c.args.tokens.now) in
    first_of (search rules, grind (arith, common_steps))

pub returns-in_err-take : goal.returns-in_err-take
unfolding else_block
returns-in_err-take g c =
    let e = maybe_else_is c.args.self.now.depth (cursor_of c.args.tokens.now) in
    first_of (search rules, grind (arith, common_steps))

pub returns : goal.returns
unfolding else_block
returns g c =
    let e = maybe_else_is c.args.self.now.depth (cursor_of c.args.tokens.now) in
    first_of (search rules, grind (arith, common_steps))
