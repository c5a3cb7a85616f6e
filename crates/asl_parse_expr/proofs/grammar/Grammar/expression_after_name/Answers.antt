use Rattle.std.proofs.Common.{rules, arith}
use Rattle.std.proofs.lemmas.Grind.{common_steps}
use Rattle.asl_parse_expr.specs.private.Code.{cursor_of}
use Rattle.asl_parse_expr.proofs.Tails.{expression_after_name_is}
use Rattle.asl_parse_expr.proofs.grammar.Grammar.expression_after_name.Goals as goal

pub returns-in_err-maybe_after_name : goal.returns-in_err-maybe_after_name
returns-in_err-maybe_after_name g c =
    let e = expression_after_name_is c.args.self.now.depth c.args.name (cursor_of c.args.tokens.now) in
    first_of (search rules, grind (arith, common_steps))

pub returns-in_err-whole-2 : goal.returns-in_err-whole-2
returns-in_err-whole-2 g c =
    let e = expression_after_name_is c.args.self.now.depth c.args.name (cursor_of c.args.tokens.now) in
    first_of (search rules, grind (arith, common_steps))

pub returns-in_err-whole-3 : goal.returns-in_err-whole-3
returns-in_err-whole-3 g c =
    let e = expression_after_name_is c.args.self.now.depth c.args.name (cursor_of c.args.tokens.now) in
    first_of (search rules, grind (arith, common_steps))

pub returns : goal.returns
returns g c =
    let e = expression_after_name_is c.args.self.now.depth c.args.name (cursor_of c.args.tokens.now) in
    first_of (search rules, grind (arith, common_steps))
