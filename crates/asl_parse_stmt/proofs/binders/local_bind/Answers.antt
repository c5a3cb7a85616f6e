use Rattle.std.proofs.Common.{rules, arith}
use Rattle.std.proofs.lemmas.Grind.{common_steps}
use Rattle.asl_grammar.specs.grammar.Rules.{bind_name}
use Rattle.asl_parse_expr.specs.private.Code.{cursor_of}
use Rattle.asl_parse_stmt.proofs.Steps.{local_bind_is}
use Rattle.asl_parse_stmt.proofs.binders.local_bind.Goals as goal

pub returns-in_err-name : goal.returns-in_err-name
unfolding bind_name
returns-in_err-name c =
    let e = local_bind_is c.args.depth (cursor_of c.args.tokens.now) in
    first_of (search rules, grind (arith, common_steps))

pub returns-in_ok-name : goal.returns-in_ok-name
unfolding bind_name
returns-in_ok-name c =
    let e = local_bind_is c.args.depth (cursor_of c.args.tokens.now) in
    first_of (search rules, grind (arith, common_steps))

pub returns-else-starts : goal.returns-else-starts
unfolding bind_name
returns-else-starts c =
    let e = local_bind_is c.args.depth (cursor_of c.args.tokens.now) in
    first_of (search rules, grind (arith, common_steps))
