use Rattle.std.proofs.Common.{rules, arith}
use Rattle.std.proofs.lemmas.Grind.{common_steps}
use Rattle.asl_parse_expr.specs.private.Code.{cursor_of}
use Rattle.asl_parse_expr.proofs.Tails.{field_values_after_name_is}
use Rattle.asl_parse_expr.proofs.grammar.Grammar.field_values_after_name.Goals as goal

pub returns-in_err-take : goal.returns-in_err-take
returns-in_err-take g c =
    let e = field_values_after_name_is c.args.self.now.depth c.args.name (cursor_of c.args.tokens.now) in
    first_of (search rules, grind (arith, common_steps))

pub returns-in_err-value : goal.returns-in_err-value
returns-in_err-value g c =
    let e = field_values_after_name_is c.args.self.now.depth c.args.name (cursor_of c.args.tokens.now) in
    first_of (search rules, grind (arith, common_steps))

pub returns-in_err-found : goal.returns-in_err-found
returns-in_err-found g c =
    let e = field_values_after_name_is c.args.self.now.depth c.args.name (cursor_of c.args.tokens.now) in
    first_of (search rules, grind (arith, common_steps))

pub returns-in_err-take-2 : goal.returns-in_err-take-2
returns-in_err-take-2 g c =
    let e = field_values_after_name_is c.args.self.now.depth c.args.name (cursor_of c.args.tokens.now) in
    first_of (search rules, grind (arith, common_steps))

pub returns : goal.returns
returns g c =
    let e = field_values_after_name_is c.args.self.now.depth c.args.name (cursor_of c.args.tokens.now) in
    first_of (search rules, grind (arith, common_steps))
