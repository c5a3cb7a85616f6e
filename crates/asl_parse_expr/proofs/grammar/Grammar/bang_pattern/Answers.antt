use Rattle.std.proofs.Common.{rules, arith}
use Rattle.std.proofs.lemmas.Grind.{common_steps}
use Rattle.asl_parse_expr.specs.private.Code.{cursor_of}
use Rattle.asl_parse_expr.proofs.Tails.{bang_pattern_is}
use Rattle.asl_parse_expr.proofs.grammar.Grammar.bang_pattern.Goals as goal

pub returns-in_err-take : goal.returns-in_err-take
returns-in_err-take g c =
    let e = bang_pattern_is c.args.self.now.depth (cursor_of c.args.tokens.now) in
    first_of (search rules, grind (arith, common_steps))

pub returns-in_err-parts : goal.returns-in_err-parts
returns-in_err-parts g c =
    let e = bang_pattern_is c.args.self.now.depth (cursor_of c.args.tokens.now) in
    first_of (search rules, grind (arith, common_steps))

pub returns-in_ok-parts : goal.returns-in_ok-parts
returns-in_ok-parts g c =
    let e = bang_pattern_is c.args.self.now.depth (cursor_of c.args.tokens.now) in
    first_of (search rules, grind (arith, common_steps))

pub returns-else-starts : goal.returns-else-starts
returns-else-starts g c =
    let e = bang_pattern_is c.args.self.now.depth (cursor_of c.args.tokens.now) in
    first_of (search rules, grind (arith, common_steps))
