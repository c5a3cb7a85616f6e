use Rattle.std.proofs.Common.{rules, arith}
use Rattle.std.proofs.lemmas.Grind.{common_steps}
use Rattle.asl_parse_expr.specs.private.Code.{cursor_of}
use Rattle.asl_parse_expr.proofs.Tails.{late_range_ends}
use Rattle.asl_parse_expr.proofs.grammar.Grammar.late_range.Goals as goal

pub returns-in_err-low : goal.returns-in_err-low
returns-in_err-low g c =
    let e = late_range_ends c.args.self.now.depth c.args.from c.args.operator (cursor_of c.args.tokens.now) in
    first_of (search rules, grind (arith, common_steps))

pub returns : goal.returns
returns g c =
    let e = late_range_ends c.args.self.now.depth c.args.from c.args.operator (cursor_of c.args.tokens.now) in
    first_of (search rules, grind (arith, common_steps))
