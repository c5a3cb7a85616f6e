use Rattle.std.proofs.Common.{rules, arith}
use Rattle.std.proofs.lemmas.Grind.{common_steps}
use Rattle.asl_parse_expr.specs.private.Code.{cursor_of}
use Rattle.asl_parse_expr.proofs.Tails.{bracket_is}
use Rattle.asl_parse_expr.proofs.grammar.Grammar.bracket.Goals as goal

pub returns-in_err-charge : goal.returns-in_err-charge
returns-in_err-charge g c =
    let e = bracket_is c.args.self.now.depth (cursor_of c.args.tokens.now) in
    first_of (search rules, grind (arith, common_steps))

pub returns-in_err-open : goal.returns-in_err-open
returns-in_err-open g c =
    let e = bracket_is c.args.self.now.depth (cursor_of c.args.tokens.now) in
    first_of (search rules, grind (arith, common_steps))

pub returns-in_err-found : goal.returns-in_err-found
returns-in_err-found g c =
    let e = bracket_is c.args.self.now.depth (cursor_of c.args.tokens.now) in
    first_of (search rules, grind (arith, common_steps))

pub returns : goal.returns
returns g c =
    let e = bracket_is c.args.self.now.depth (cursor_of c.args.tokens.now) in
    first_of (search rules, grind (arith, common_steps))
