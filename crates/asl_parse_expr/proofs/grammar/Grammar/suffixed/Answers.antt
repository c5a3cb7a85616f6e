use Rattle.std.proofs.Common.{rules, arith, ◌∷◌, []}
use Rattle.std.proofs.lemmas.Grind.{common_steps}
use Rattle.asl_grammar.specs.declared.kinds.Kind.TheVariants as kind
use Rattle.asl_grammar.specs.grammar.Rules.{suffix}
use Rattle.asl_parse_expr.specs.private.Code.{cursor_of, reading}
use Rattle.asl_parse_expr.proofs.Loops.{run_suffixed, one_more}
use Rattle.asl_parse_expr.proofs.Tails.{suffixed_is}
use Rattle.asl_parse_expr.proofs.grammar.Grammar.suffixed.Goals as goal

pub loop-turn-preserved : goal.loop-turn-preserved
loop-turn-preserved g c =
    let e = one_more (λ n. run_suffixed (reading c.args.self.now.depth suffix) (kind.Dot ∷ kind.OpenBracket ∷ []) c.args.from n c.loop-turn.left (cursor_of c.loop-turn.tokens)) _ c.loop-turn._turn c.loop-turn-test.true c.loop-turn.invariant in
    first_of (search rules, grind (arith, common_steps))

pub loop-turn-init : goal.loop-turn-init
loop-turn-init g c =
    let e = suffixed_is c.args.self.now.depth c.args.from c.args.left (cursor_of c.args.tokens.now) in
    first_of (search rules, grind (arith, common_steps))

pub returns-then-not-starts : goal.returns-then-not-starts
returns-then-not-starts g c =
    let e = one_more (λ n. run_suffixed (reading c.args.self.now.depth suffix) (kind.Dot ∷ kind.OpenBracket ∷ []) c.args.from n c.loop-turn.left (cursor_of c.loop-turn.tokens)) _ c.loop-turn._turn c.loop-turn-test.true c.loop-turn.invariant in
    first_of (search rules, grind (arith, common_steps))

pub returns-in_err-placed : goal.returns-in_err-placed
returns-in_err-placed g c =
    let e = one_more (λ n. run_suffixed (reading c.args.self.now.depth suffix) (kind.Dot ∷ kind.OpenBracket ∷ []) c.args.from n c.loop-turn.left (cursor_of c.loop-turn.tokens)) _ c.loop-turn._turn c.loop-turn-test.true c.loop-turn.invariant in
    first_of (search rules, grind (arith, common_steps))
