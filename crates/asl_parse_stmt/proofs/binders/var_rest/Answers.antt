use Rattle.std.proofs.Common.{rules, arith}
use Rattle.std.proofs.lemmas.Grind.{common_steps}
use Rattle.asl_grammar.specs.grammar.Build.{var_tail_of}
use Rattle.asl_parse_expr.specs.private.Code.{cursor_of}
use Rattle.asl_parse_stmt.proofs.StatementSteps.{var_rest_steps}
use Rattle.asl_parse_stmt.proofs.binders.var_rest.Goals as goal

pub returns-then-starts : goal.returns-then-starts
returns-then-starts c =
    let e = var_rest_steps c.args.depth (var_tail_of c.args.first) (cursor_of c.args.tokens.now) in
    first_of (search rules, grind (arith, common_steps))

pub returns-then-starts-2 : goal.returns-then-starts-2
returns-then-starts-2 c =
    let e = var_rest_steps c.args.depth (var_tail_of c.args.first) (cursor_of c.args.tokens.now) in
    first_of (search rules, grind (arith, common_steps))

pub returns-in_err-init : goal.returns-in_err-init
returns-in_err-init c =
    let e = var_rest_steps c.args.depth (var_tail_of c.args.first) (cursor_of c.args.tokens.now) in
    first_of (search rules, grind (arith, common_steps))

pub returns-in_ok-init : goal.returns-in_ok-init
returns-in_ok-init c =
    let e = var_rest_steps c.args.depth (var_tail_of c.args.first) (cursor_of c.args.tokens.now) in
    first_of (search rules, grind (arith, common_steps))
