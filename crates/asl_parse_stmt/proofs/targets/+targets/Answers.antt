use Rattle.std.proofs.Common.{rules, arith}
use Rattle.std.proofs.lemmas.Grind.{common_steps}
use Rattle.asl_grammar.specs.grammar.Rules.{place, target}
use Rattle.asl_parse_expr.specs.private.Code.{cursor_of, reading}
use Rattle.asl_parse_expr.proofs.Loops.{run_more, one_more}
use Rattle.asl_parse_stmt.proofs.StatementSteps.{targets_nest}
use Rattle.asl_parse_stmt.proofs.Steps.{more_targets_is, target_is, two_targets_is}
use Rattle.asl_parse_stmt.proofs.targets.+targets.Goals as goal

pub more_targets-loop-turn-preserved : goal.more_targets-loop-turn-preserved
more_targets-loop-turn-preserved t c =
    let e = one_more (λ n. run_more (reading c.args.depth target) n c.loop-turn.found (cursor_of c.loop-turn.tokens)) _ c.loop-turn._turn c.loop-turn-test.true c.loop-turn.invariant in
    first_of (search rules, grind (arith, common_steps))

pub more_targets-loop-turn-init : goal.more_targets-loop-turn-init
more_targets-loop-turn-init t c =
    let e = more_targets_is c.args.depth c.args.found (cursor_of c.args.tokens.now) in
    first_of (search rules, grind (arith, common_steps))

pub target-returns-in_err-name : goal.target-returns-in_err-name
unfolding place
target-returns-in_err-name t c =
    let e = target_is c.args.depth (cursor_of c.args.tokens.now) in
    first_of (search rules, grind (arith, common_steps))

pub target-returns-in_err-suffixes : goal.target-returns-in_err-suffixes
unfolding place
target-returns-in_err-suffixes t c =
    let e = target_is c.args.depth (cursor_of c.args.tokens.now) in
    first_of (search rules, grind (arith, common_steps))

pub target-returns-then-starts : goal.target-returns-then-starts
unfolding place
target-returns-then-starts t c =
    let e = target_is c.args.depth (cursor_of c.args.tokens.now) in
    first_of (search rules, grind (arith, common_steps))

pub target-returns-in_ok-suffixes : goal.target-returns-in_ok-suffixes
unfolding place
target-returns-in_ok-suffixes t c =
    let e = target_is c.args.depth (cursor_of c.args.tokens.now) in
    first_of (search rules, grind (arith, common_steps))

pub target-returns-else-starts-2 : goal.target-returns-else-starts-2
unfolding place
target-returns-else-starts-2 t c =
    let e = target_is c.args.depth (cursor_of c.args.tokens.now) in
    first_of (search rules, grind (arith, common_steps))

pub targets-returns-in_err-depth : goal.targets-returns-in_err-depth
targets-returns-in_err-depth t c =
    let e = targets_nest c.args.depth (cursor_of c.args.tokens.now) in
    first_of (search rules, grind (arith, common_steps))

pub targets-returns-in_err-parts : goal.targets-returns-in_err-parts
targets-returns-in_err-parts t c =
    let e = targets_nest c.args.depth (cursor_of c.args.tokens.now) in
    first_of (search rules, grind (arith, common_steps))

pub targets-returns-in_err-take : goal.targets-returns-in_err-take
targets-returns-in_err-take t c =
    let e = targets_nest c.args.depth (cursor_of c.args.tokens.now) in
    first_of (search rules, grind (arith, common_steps))

pub targets-returns : goal.targets-returns
targets-returns t c =
    let e = targets_nest c.args.depth (cursor_of c.args.tokens.now) in
    first_of (search rules, grind (arith, common_steps))

pub two_targets-returns-in_err-target : goal.two_targets-returns-in_err-target
two_targets-returns-in_err-target t c =
    let e = two_targets_is c.args.depth (cursor_of c.args.tokens.now) in
    first_of (search rules, grind (arith, common_steps))

pub two_targets-returns-in_err-take : goal.two_targets-returns-in_err-take
two_targets-returns-in_err-take t c =
    let e = two_targets_is c.args.depth (cursor_of c.args.tokens.now) in
    first_of (search rules, grind (arith, common_steps))

pub two_targets-returns-in_err-target-2 : goal.two_targets-returns-in_err-target-2
two_targets-returns-in_err-target-2 t c =
    let e = two_targets_is c.args.depth (cursor_of c.args.tokens.now) in
    first_of (search rules, grind (arith, common_steps))

pub two_targets-returns : goal.two_targets-returns
two_targets-returns t c =
    let e = two_targets_is c.args.depth (cursor_of c.args.tokens.now) in
    first_of (search rules, grind (arith, common_steps))
