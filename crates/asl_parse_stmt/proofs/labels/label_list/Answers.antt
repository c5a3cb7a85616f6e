use Rattle.std.proofs.Common.{rules, arith, ◌∷◌, []}
use Rattle.std.proofs.lemmas.Grind.{common_steps}
use Rattle.asl_grammar.specs.declared.kinds.Kind.TheVariants as kind
use Rattle.asl_grammar.specs.grammar.Rules.{name}
use Rattle.asl_parse_expr.specs.private.Code.{cursor_of, reading}
use Rattle.asl_parse_expr.proofs.Loops.{run_listed, one_more}
use Rattle.asl_parse_stmt.proofs.Steps.{label_list_is}
use Rattle.asl_parse_stmt.proofs.labels.label_list.Goals as goal

pub loop-turn-preserved : goal.loop-turn-preserved
loop-turn-preserved c =
    let e = one_more (λ n. run_listed (reading c.args.depth name) (kind.Comma ∷ []) (kind.Name ∷ kind.Getter ∷ kind.Setter ∷ []) n c.loop-turn.found (cursor_of c.loop-turn.tokens)) _ c.loop-turn._turn c.loop-turn-test.true c.loop-turn.invariant in
    first_of (search rules, grind (arith, common_steps))

pub loop-turn-init : goal.loop-turn-init
loop-turn-init c =
    let e = label_list_is c.args.depth (cursor_of c.args.tokens.now) in
    first_of (search rules, grind (arith, common_steps))

pub returns-in_err-name : goal.returns-in_err-name
returns-in_err-name c =
    let e = label_list_is c.args.depth (cursor_of c.args.tokens.now) in
    first_of (search rules, grind (arith, common_steps))

pub returns-then-not-starts : goal.returns-then-not-starts
returns-then-not-starts c =
    let e = one_more (λ n. run_listed (reading c.args.depth name) (kind.Comma ∷ []) (kind.Name ∷ kind.Getter ∷ kind.Setter ∷ []) n c.loop-turn.found (cursor_of c.loop-turn.tokens)) _ c.loop-turn._turn c.loop-turn-test.true c.loop-turn.invariant in
    first_of (search rules, grind (arith, common_steps))

pub returns-in_err-take : goal.returns-in_err-take
returns-in_err-take c =
    let e = one_more (λ n. run_listed (reading c.args.depth name) (kind.Comma ∷ []) (kind.Name ∷ kind.Getter ∷ kind.Setter ∷ []) n c.loop-turn.found (cursor_of c.loop-turn.tokens)) _ c.loop-turn._turn c.loop-turn-test.true c.loop-turn.invariant in
    first_of (search rules, grind (arith, common_steps))

pub returns-in_err-name-2 : goal.returns-in_err-name-2
returns-in_err-name-2 c =
    let e = one_more (λ n. run_listed (reading c.args.depth name) (kind.Comma ∷ []) (kind.Name ∷ kind.Getter ∷ kind.Setter ∷ []) n c.loop-turn.found (cursor_of c.loop-turn.tokens)) _ c.loop-turn._turn c.loop-turn-test.true c.loop-turn.invariant in
    first_of (search rules, grind (arith, common_steps))
