use Rattle.std.proofs.Common.{rules, arith}
use Rattle.std.proofs.lemmas.Grind.{common_steps}
use Rattle.asl_parse_expr.specs.private.Code.{cursor_of}
use Rattle.asl_parse_expr.proofs.Steps.{maybe_expression_is}
use Rattle.asl_parse_expr.proofs.grammar.Grammar.maybe_expression.Goals as goal

pub returns-then-not-starts : goal.returns-then-not-starts
returns-then-not-starts g c =
    let e = maybe_expression_is c.args.self.now.depth (cursor_of c.args.tokens.now) in
    first_of (search rules, grind (arith, common_steps))

pub returns-in_err-expression : goal.returns-in_err-expression
returns-in_err-expression g c =
    let e = maybe_expression_is c.args.self.now.depth (cursor_of c.args.tokens.now) in
    first_of (search rules, grind (arith, common_steps))

pub returns : goal.returns
returns g c =
    let e = maybe_expression_is c.args.self.now.depth (cursor_of c.args.tokens.now) in
    first_of (search rules, grind (arith, common_steps))
