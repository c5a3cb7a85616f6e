use Rattle.std.proofs.Common.{rules, arith}
use Rattle.std.proofs.lemmas.Grind.{common_steps}
use Rattle.asl_parse_expr.specs.private.Code.{cursor_of}
use Rattle.asl_parse_expr.proofs.Tails.{after_minus_is}
use Rattle.asl_parse_expr.proofs.grammar.Grammar.after_minus.Goals as goal

pub returns-then-starts : goal.returns-then-starts
returns-then-starts g c =
    let e = after_minus_is c.args.self.now.depth c.args.minus (cursor_of c.args.tokens.now) in
    first_of (search rules, grind (arith, common_steps))

pub returns-in_err-parameters_after_minus : goal.returns-in_err-parameters_after_minus
returns-in_err-parameters_after_minus g c =
    let e = after_minus_is c.args.self.now.depth c.args.minus (cursor_of c.args.tokens.now) in
    first_of (search rules, grind (arith, common_steps))

pub returns : goal.returns
returns g c =
    let e = after_minus_is c.args.self.now.depth c.args.minus (cursor_of c.args.tokens.now) in
    first_of (search rules, grind (arith, common_steps))
