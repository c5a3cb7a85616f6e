use Rattle.std.proofs.Common.{◌≡◌, ◌-◌, ◌∷◌, []}
use Rattle.asl_grammar.specs.declared.kinds.Kind.TheVariants as kind
use Rattle.asl_grammar.specs.grammar.Rules.{declaration, program}
use Rattle.asl_parse_expr.specs.private.Code.{cursor_of, reading}
use Rattle.asl_parse_expr.proofs.Loops.{run_items}
use Rattle.asl_parse_stmt.proofs.declarations.program.Given as goal

abbrev pub invariant-loop-turn : goal.invariant-loop-turn
invariant-loop-turn l = reading l.depth program (cursor_of l.fn.tokens) ≡ run_items (reading l.depth declaration) (kind.TypeWord ∷ kind.Constant ∷ kind.Let ∷ kind.Var ∷ kind.ImpDef ∷ kind.Implementation ∷ kind.Pure ∷ kind.ReadOnly ∷ kind.Func ∷ kind.Accessor ∷ []) (l._turn-end - l._turn) l.found (cursor_of l.tokens)
