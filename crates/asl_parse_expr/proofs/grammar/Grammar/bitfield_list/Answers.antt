use Rattle.std.proofs.Common.{rules, arith, ◌∷◌, []}
use Rattle.std.proofs.lemmas.Grind.{common_steps}
use Rattle.asl_grammar.specs.declared.kinds.Kind.TheVariants as kind
use Rattle.asl_grammar.specs.grammar.Rules.{bitfield}
use Rattle.asl_parse_expr.specs.private.Code.{cursor_of, reading}
use Rattle.asl_parse_expr.proofs.Loops.{run_listed, one_more}
use Rattle.asl_parse_expr.proofs.Steps.{bitfield_list_is}
use Rattle.asl_parse_expr.proofs.grammar.Grammar.bitfield_list.Goals as goal

pub loop-turn-preserved : goal.loop-turn-preserved
loop-turn-preserved g c =
    let e = one_more (λ n. run_listed (reading c.args.self.now.depth bitfield) (kind.Comma ∷ []) (kind.OpenBracket ∷ []) n c.loop-turn.found (cursor_of c.loop-turn.tokens)) _ c.loop-turn._turn c.loop-turn-test.true c.loop-turn.invariant in
    first_of (search rules, grind (arith, common_steps))

pub returns-in_err-bitfield-2 : goal.returns-in_err-bitfield-2
returns-in_err-bitfield-2 g c =
    let e = one_more (λ n. run_listed (reading c.args.self.now.depth bitfield) (kind.Comma ∷ []) (kind.OpenBracket ∷ []) n c.loop-turn.found (cursor_of c.loop-turn.tokens)) _ c.loop-turn._turn c.loop-turn-test.true c.loop-turn.invariant in
    first_of (search rules, grind (arith, common_steps))

pub returns-then-not-starts-2 : goal.returns-then-not-starts-2
returns-then-not-starts-2 g c =
    let e = one_more (λ n. run_listed (reading c.args.self.now.depth bitfield) (kind.Comma ∷ []) (kind.OpenBracket ∷ []) n c.loop-turn.found (cursor_of c.loop-turn.tokens)) _ c.loop-turn._turn c.loop-turn-test.true c.loop-turn.invariant in
    first_of (search rules, grind (arith, common_steps))

pub loop-turn-init : goal.loop-turn-init
loop-turn-init g c =
    let e = bitfield_list_is c.args.self.now.depth (cursor_of c.args.tokens.now) in
    first_of (search rules, grind (arith, common_steps))

pub returns-in_err-bitfield : goal.returns-in_err-bitfield
returns-in_err-bitfield g c =
    let e = bitfield_list_is c.args.self.now.depth (cursor_of c.args.tokens.now) in
    first_of (search rules, grind (arith, common_steps))

pub returns-then-not-starts : goal.returns-then-not-starts
returns-then-not-starts g c =
    let e = one_more (λ n. run_listed (reading c.args.self.now.depth bitfield) (kind.Comma ∷ []) (kind.OpenBracket ∷ []) n c.loop-turn.found (cursor_of c.loop-turn.tokens)) _ c.loop-turn._turn c.loop-turn-test.true c.loop-turn.invariant in
    first_of (search rules, grind (arith, common_steps))
