use Rattle.std.proofs.Common.{rules, arith}
use Rattle.std.proofs.lemmas.Grind.{common_steps}
use Rattle.asl_parse_expr.specs.private.Code.{cursor_of}
use Rattle.asl_parse_expr.proofs.Tails.{prefixed_by_is}
use Rattle.asl_parse_expr.proofs.grammar.Grammar.prefixed_by.Goals as goal

pub returns-in_err-operator : goal.returns-in_err-operator
returns-in_err-operator g c =
    let e = prefixed_by_is c.args.self.now.depth c.args.operators.now (cursor_of c.args.tokens.now) in
    first_of (search rules, grind (arith, common_steps))

pub returns-in_err-found : goal.returns-in_err-found
returns-in_err-found g c =
    let e = prefixed_by_is c.args.self.now.depth c.args.operators.now (cursor_of c.args.tokens.now) in
    first_of (search rules, grind (arith, common_steps))

pub returns : goal.returns
returns g c =
    let e = prefixed_by_is c.args.self.now.depth c.args.operators.now (cursor_of c.args.tokens.now) in
    first_of (search rules, grind (arith, common_steps))
