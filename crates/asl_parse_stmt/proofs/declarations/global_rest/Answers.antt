use Rattle.std.proofs.Common.{rules, arith}
use Rattle.std.proofs.lemmas.Grind.{common_steps}
use Rattle.asl_grammar.specs.grammar.Rules.{typed_var}
use Rattle.asl_parse_expr.specs.private.Code.{cursor_of}
use Rattle.asl_parse_stmt.proofs.Steps.{global_rest_is}
use Rattle.asl_parse_stmt.proofs.declarations.global_rest.Goals as goal

pub returns-in_err-take : goal.returns-in_err-take
unfolding typed_var
returns-in_err-take c =
    let e = global_rest_is c.args.depth (cursor_of c.args.tokens.now) in
    first_of (search rules, grind (arith, common_steps))

pub returns-in_err-type_expression : goal.returns-in_err-type_expression
unfolding typed_var
returns-in_err-type_expression c =
    let e = global_rest_is c.args.depth (cursor_of c.args.tokens.now) in
    first_of (search rules, grind (arith, common_steps))

pub returns-in_err-init : goal.returns-in_err-init
unfolding typed_var
returns-in_err-init c =
    let e = global_rest_is c.args.depth (cursor_of c.args.tokens.now) in
    first_of (search rules, grind (arith, common_steps))

pub returns-in_err-init-2 : goal.returns-in_err-init-2
unfolding typed_var
returns-in_err-init-2 c =
    let e = global_rest_is c.args.depth (cursor_of c.args.tokens.now) in
    first_of (search rules, grind (arith, common_steps))

pub returns-in_ok-init : goal.returns-in_ok-init
unfolding typed_var
returns-in_ok-init c =
    let e = global_rest_is c.args.depth (cursor_of c.args.tokens.now) in
    first_of (search rules, grind (arith, common_steps))

pub returns-in_ok-init-2 : goal.returns-in_ok-init-2
unfolding typed_var
returns-in_ok-init-2 c =
    let e = global_rest_is c.args.depth (cursor_of c.args.tokens.now) in
    first_of (search rules, grind (arith, common_steps))
