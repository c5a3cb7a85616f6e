use Rattle.std.proofs.Common.{rules, arith}
use Rattle.std.proofs.lemmas.Grind.{common_steps}
use Rattle.asl_parse_expr.specs.private.Code.{cursor_of}
use Rattle.asl_parse_expr.proofs.Steps.{type_expression_is}
use Rattle.asl_parse_expr.proofs.grammar.Grammar.type_expression.Goals as goal

pub returns-then-starts : goal.returns-then-starts
returns-then-starts g c =
    let e = type_expression_is c.args.self.now.depth (cursor_of c.args.tokens.now) in
    first_of (search rules, grind (arith, common_steps))

pub returns-then-starts-2 : goal.returns-then-starts-2
returns-then-starts-2 g c =
    let e = type_expression_is c.args.self.now.depth (cursor_of c.args.tokens.now) in
    first_of (search rules, grind (arith, common_steps))

pub returns-then-starts-3 : goal.returns-then-starts-3
returns-then-starts-3 g c =
    let e = type_expression_is c.args.self.now.depth (cursor_of c.args.tokens.now) in
    first_of (search rules, grind (arith, common_steps))

pub returns-then-starts-4 : goal.returns-then-starts-4
returns-then-starts-4 g c =
    let e = type_expression_is c.args.self.now.depth (cursor_of c.args.tokens.now) in
    first_of (search rules, grind (arith, common_steps))

pub returns-then-starts-5 : goal.returns-then-starts-5
returns-then-starts-5 g c =
    let e = type_expression_is c.args.self.now.depth (cursor_of c.args.tokens.now) in
    first_of (search rules, grind (arith, common_steps))

pub returns-then-starts-6 : goal.returns-then-starts-6
returns-then-starts-6 g c =
    let e = type_expression_is c.args.self.now.depth (cursor_of c.args.tokens.now) in
    first_of (search rules, grind (arith, common_steps))

pub returns-else-starts-6 : goal.returns-else-starts-6
returns-else-starts-6 g c =
    let e = type_expression_is c.args.self.now.depth (cursor_of c.args.tokens.now) in
    first_of (search rules, grind (arith, common_steps))
