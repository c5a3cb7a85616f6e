use Rattle.std.proofs.Common.{rules, arith, ◌∷◌, []}
use Rattle.std.proofs.lemmas.Grind.{common_steps}
use Rattle.asl_grammar.specs.declared.kinds.Kind.TheVariants as kind
use Rattle.asl_grammar.specs.grammar.Rules.{declaration}
use Rattle.asl_parse_expr.specs.private.Code.{cursor_of, reading}
use Rattle.asl_parse_expr.proofs.Loops.{run_items, one_more}
use Rattle.asl_parse_stmt.proofs.Steps.{program_is}
use Rattle.asl_parse_stmt.proofs.declarations.program.Goals as goal

pub loop-turn-preserved : goal.loop-turn-preserved
loop-turn-preserved c =
    let e = one_more (λ n. run_items (reading c.args.depth declaration) (kind.TypeWord ∷ kind.Constant ∷ kind.Let ∷ kind.Var ∷ kind.ImpDef ∷ kind.Implementation ∷ kind.Pure ∷ kind.ReadOnly ∷ kind.Func ∷ kind.Accessor ∷ []) n c.loop-turn.found (cursor_of c.loop-turn.tokens)) _ c.loop-turn._turn c.loop-turn-test.true c.loop-turn.invariant in
    first_of (search rules, grind (arith, common_steps))

pub loop-turn-init : goal.loop-turn-init
loop-turn-init c =
    let e = program_is c.args.depth (cursor_of c.args.tokens.now) in
    first_of (search rules, grind (arith, common_steps))

pub returns-then-not-starts : goal.returns-then-not-starts
returns-then-not-starts c =
    let e = one_more (λ n. run_items (reading c.args.depth declaration) (kind.TypeWord ∷ kind.Constant ∷ kind.Let ∷ kind.Var ∷ kind.ImpDef ∷ kind.Implementation ∷ kind.Pure ∷ kind.ReadOnly ∷ kind.Func ∷ kind.Accessor ∷ []) n c.loop-turn.found (cursor_of c.loop-turn.tokens)) _ c.loop-turn._turn c.loop-turn-test.true c.loop-turn.invariant in
    first_of (search rules, grind (arith, common_steps))

pub returns-in_err-declaration : goal.returns-in_err-declaration
returns-in_err-declaration c =
    let e = one_more (λ n. run_items (reading c.args.depth declaration) (kind.TypeWord ∷ kind.Constant ∷ kind.Let ∷ kind.Var ∷ kind.ImpDef ∷ kind.Implementation ∷ kind.Pure ∷ kind.ReadOnly ∷ kind.Func ∷ kind.Accessor ∷ []) n c.loop-turn.found (cursor_of c.loop-turn.tokens)) _ c.loop-turn._turn c.loop-turn-test.true c.loop-turn.invariant in
    first_of (search rules, grind (arith, common_steps))
