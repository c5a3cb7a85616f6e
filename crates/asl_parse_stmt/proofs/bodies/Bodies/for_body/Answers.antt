use Rattle.std.proofs.Common.{rules, arith}
use Rattle.std.proofs.lemmas.Grind.{common_steps}
use Rattle.asl_parse_expr.specs.private.Code.{cursor_of}
use Rattle.asl_parse_stmt.proofs.StatementSteps.{for_body_by}
use Rattle.asl_parse_stmt.proofs.bodies.Bodies.for_body.Goals as goal

pub returns-in_err-index : goal.returns-in_err-index
returns-in_err-index g c =
    let e = for_body_by c.args.self.now.depth (cursor_of c.args.tokens.now) in
    first_of (search rules, grind (arith, common_steps))

pub returns-in_err-loop_limit : goal.returns-in_err-loop_limit
returns-in_err-loop_limit g c =
    let e = for_body_by c.args.self.now.depth (cursor_of c.args.tokens.now) in
    first_of (search rules, grind (arith, common_steps))

pub returns-in_err-take : goal.returns-in_err-take
returns-in_err-take g c =
    let e = for_body_by c.args.self.now.depth (cursor_of c.args.tokens.now) in
    first_of (search rules, grind (arith, common_steps))

pub returns-in_err-body : goal.returns-in_err-body
returns-in_err-body g c =
    let e = for_body_by c.args.self.now.depth (cursor_of c.args.tokens.now) in
    first_of (search rules, grind (arith, common_steps))

pub returns-in_err-take-2 : goal.returns-in_err-take-2
returns-in_err-take-2 g c =
    let e = for_body_by c.args.self.now.depth (cursor_of c.args.tokens.now) in
    first_of (search rules, grind (arith, common_steps))

pub returns-in_err-take-3 : goal.returns-in_err-take-3
returns-in_err-take-3 g c =
    let e = for_body_by c.args.self.now.depth (cursor_of c.args.tokens.now) in
    first_of (search rules, grind (arith, common_steps))

pub returns : goal.returns
returns g c =
    let e = for_body_by c.args.self.now.depth (cursor_of c.args.tokens.now) in
    first_of (search rules, grind (arith, common_steps))
