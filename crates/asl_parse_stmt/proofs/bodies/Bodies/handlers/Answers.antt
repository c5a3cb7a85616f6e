use Rattle.std.proofs.Common.{rules, arith}
use Rattle.std.proofs.lemmas.Grind.{common_steps}
use Rattle.asl_parse_expr.specs.private.Code.{cursor_of}
use Rattle.asl_parse_stmt.proofs.Steps.{handlers_is}
use Rattle.asl_parse_stmt.proofs.bodies.Bodies.handlers.Goals as goal

pub returns-in_err-otherwise : goal.returns-in_err-otherwise
returns-in_err-otherwise g c =
    let e = handlers_is c.args.self.now.depth (cursor_of c.args.tokens.now) in
    first_of (search rules, grind (arith, common_steps))

pub returns-then-starts : goal.returns-then-starts
returns-then-starts g c =
    let e = handlers_is c.args.self.now.depth (cursor_of c.args.tokens.now) in
    first_of (search rules, grind (arith, common_steps))

pub returns-in_ok-otherwise : goal.returns-in_ok-otherwise
returns-in_ok-otherwise g c =
    let e = handlers_is c.args.self.now.depth (cursor_of c.args.tokens.now) in
    first_of (search rules, grind (arith, common_steps))
