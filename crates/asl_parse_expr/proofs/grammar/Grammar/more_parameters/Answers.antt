use Rattle.std.proofs.Common.{rules, arith}
use Rattle.std.proofs.lemmas.Grind.{common_steps}
use Rattle.asl_parse_expr.specs.private.Code.{cursor_of}
use Rattle.asl_parse_expr.proofs.Tails.{more_parameters_is}
use Rattle.asl_parse_expr.proofs.grammar.Grammar.more_parameters.Goals as goal

pub returns-in_err-found : goal.returns-in_err-found
returns-in_err-found g c =
    let e = more_parameters_is c.args.self.now.depth c.args.found (cursor_of c.args.tokens.now) in
    first_of (search rules, grind (arith, common_steps))

pub returns-in_err-take : goal.returns-in_err-take
returns-in_err-take g c =
    let e = more_parameters_is c.args.self.now.depth c.args.found (cursor_of c.args.tokens.now) in
    first_of (search rules, grind (arith, common_steps))

pub returns : goal.returns
returns g c =
    let e = more_parameters_is c.args.self.now.depth c.args.found (cursor_of c.args.tokens.now) in
    first_of (search rules, grind (arith, common_steps))
