use Rattle.std.proofs.Common.{rules, arith}
use Rattle.std.proofs.lemmas.Grind.{common_steps}
use Rattle.asl_grammar.specs.grammar.Rules.{binder}
use Rattle.asl_parse_expr.specs.private.Code.{cursor_of, reading}
use Rattle.asl_parse_expr.proofs.Loops.{run_more, one_more}
use Rattle.asl_parse_stmt.proofs.Steps.{more_binders_is}
use Rattle.asl_parse_stmt.proofs.binders.more_binders.Goals as goal

pub loop-turn-preserved : goal.loop-turn-preserved
loop-turn-preserved c =
    let e = one_more (λ n. run_more (reading c.args.depth binder) n c.loop-turn.found (cursor_of c.loop-turn.tokens)) _ c.loop-turn._turn c.loop-turn-test.true c.loop-turn.invariant in
    first_of (search rules, grind (arith, common_steps))

pub loop-turn-init : goal.loop-turn-init
loop-turn-init c =
    let e = more_binders_is c.args.depth c.args.found (cursor_of c.args.tokens.now) in
    first_of (search rules, grind (arith, common_steps))

pub returns-then-not-starts : goal.returns-then-not-starts
returns-then-not-starts c =
    let e = one_more (λ n. run_more (reading c.args.depth binder) n c.loop-turn.found (cursor_of c.loop-turn.tokens)) _ c.loop-turn._turn c.loop-turn-test.true c.loop-turn.invariant in
    first_of (search rules, grind (arith, common_steps))

pub returns-in_err-take : goal.returns-in_err-take
returns-in_err-take c =
    let e = one_more (λ n. run_more (reading c.args.depth binder) n c.loop-turn.found (cursor_of c.loop-turn.tokens)) _ c.loop-turn._turn c.loop-turn-test.true c.loop-turn.invariant in
    first_of (search rules, grind (arith, common_steps))

pub returns-in_err-binder : goal.returns-in_err-binder
returns-in_err-binder c =
    let e = one_more (λ n. run_more (reading c.args.depth binder) n c.loop-turn.found (cursor_of c.loop-turn.tokens)) _ c.loop-turn._turn c.loop-turn-test.true c.loop-turn.invariant in
    first_of (search rules, grind (arith, common_steps))
