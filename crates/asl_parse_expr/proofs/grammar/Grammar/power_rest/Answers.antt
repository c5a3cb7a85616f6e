use Rattle.std.proofs.Common.{rules, arith, ◌∷◌, []}
use Rattle.std.proofs.lemmas.Grind.{common_steps}
use Rattle.asl_grammar.specs.declared.kinds.Kind.TheVariants as kind
use Rattle.asl_grammar.specs.grammar.Rules.{unary}
use Rattle.asl_parse_expr.specs.private.Code.{cursor_of, reading}
use Rattle.asl_parse_expr.proofs.Loops.{run_chain, one_more}
use Rattle.asl_parse_expr.proofs.Steps.{power_rest_is}
use Rattle.asl_parse_expr.proofs.grammar.Grammar.power_rest.Goals as goal

pub loop-turn-preserved : goal.loop-turn-preserved
loop-turn-preserved g c =
    let e = one_more (λ n. run_chain (reading c.args.self.now.depth unary) (kind.Caret ∷ []) (kind.Caret ∷ []) c.args.from n c.loop-turn.left (cursor_of c.loop-turn.tokens)) _ c.loop-turn._turn c.loop-turn-test.true c.loop-turn.invariant in
    first_of (search rules, grind (arith, common_steps))

pub loop-turn-init : goal.loop-turn-init
loop-turn-init g c =
    let e = power_rest_is c.args.self.now.depth c.args.from c.args.left (cursor_of c.args.tokens.now) in
    first_of (search rules, grind (arith, common_steps))

pub returns-in_err-right : goal.returns-in_err-right
returns-in_err-right g c =
    let e = one_more (λ n. run_chain (reading c.args.self.now.depth unary) (kind.Caret ∷ []) (kind.Caret ∷ []) c.args.from n c.loop-turn.left (cursor_of c.loop-turn.tokens)) _ c.loop-turn._turn c.loop-turn-test.true c.loop-turn.invariant in
    first_of (search rules, grind (arith, common_steps))

pub returns-then-not-starts : goal.returns-then-not-starts
returns-then-not-starts g c =
    let e = one_more (λ n. run_chain (reading c.args.self.now.depth unary) (kind.Caret ∷ []) (kind.Caret ∷ []) c.args.from n c.loop-turn.left (cursor_of c.loop-turn.tokens)) _ c.loop-turn._turn c.loop-turn-test.true c.loop-turn.invariant in
    first_of (search rules, grind (arith, common_steps))

pub returns-in_err-operator : goal.returns-in_err-operator
returns-in_err-operator g c =
    let e = one_more (λ n. run_chain (reading c.args.self.now.depth unary) (kind.Caret ∷ []) (kind.Caret ∷ []) c.args.from n c.loop-turn.left (cursor_of c.loop-turn.tokens)) _ c.loop-turn._turn c.loop-turn-test.true c.loop-turn.invariant in
    first_of (search rules, grind (arith, common_steps))
