use Rattle.std.proofs.Common.{rules, arith}
use Rattle.std.proofs.lemmas.Grind.{common_steps}
use Rattle.asl_parse_expr.specs.private.Code.{cursor_of}
use Rattle.asl_parse_expr.proofs.Tails.{after_first_name_is}
use Rattle.asl_parse_expr.proofs.grammar.Grammar.after_first_name.Goals as goal

pub returns-in_err-field_values_after_name : goal.returns-in_err-field_values_after_name
returns-in_err-field_values_after_name g c =
    let e = after_first_name_is c.args.self.now.depth c.args.name (cursor_of c.args.tokens.now) in
    first_of (search rules, grind (arith, common_steps))

pub returns-then-starts : goal.returns-then-starts
returns-then-starts g c =
    let e = after_first_name_is c.args.self.now.depth c.args.name (cursor_of c.args.tokens.now) in
    first_of (search rules, grind (arith, common_steps))

pub returns-in_err-parameters_after_name : goal.returns-in_err-parameters_after_name
returns-in_err-parameters_after_name g c =
    let e = after_first_name_is c.args.self.now.depth c.args.name (cursor_of c.args.tokens.now) in
    first_of (search rules, grind (arith, common_steps))

pub returns : goal.returns
returns g c =
    let e = after_first_name_is c.args.self.now.depth c.args.name (cursor_of c.args.tokens.now) in
    first_of (search rules, grind (arith, common_steps))
