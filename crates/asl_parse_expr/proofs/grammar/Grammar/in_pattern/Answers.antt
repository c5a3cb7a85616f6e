use Rattle.std.proofs.Common.{rules, arith}
use Rattle.std.proofs.lemmas.Grind.{common_steps}
use Rattle.asl_parse_expr.specs.private.Code.{cursor_of}
use Rattle.asl_parse_expr.proofs.Steps.{in_pattern_is}
use Rattle.asl_parse_expr.proofs.grammar.Grammar.in_pattern.Goals as goal

pub returns-then-starts : goal.returns-then-starts
returns-then-starts g c =
    let e = in_pattern_is c.args.self.now.depth (cursor_of c.args.tokens.now) in
    first_of (search rules, grind (arith, common_steps))

pub returns-then-starts-2 : goal.returns-then-starts-2
returns-then-starts-2 g c =
    let e = in_pattern_is c.args.self.now.depth (cursor_of c.args.tokens.now) in
    first_of (search rules, grind (arith, common_steps))

pub returns-then-starts-3 : goal.returns-then-starts-3
returns-then-starts-3 g c =
    let e = in_pattern_is c.args.self.now.depth (cursor_of c.args.tokens.now) in
    first_of (search rules, grind (arith, common_steps))

pub returns-else-starts-3 : goal.returns-else-starts-3
returns-else-starts-3 g c =
    let e = in_pattern_is c.args.self.now.depth (cursor_of c.args.tokens.now) in
    first_of (search rules, grind (arith, common_steps))
