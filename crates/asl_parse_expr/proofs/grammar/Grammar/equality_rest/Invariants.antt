use Rattle.std.proofs.Common.{◌≡◌, ◌-◌, ◌∷◌, []}
use Rattle.asl_grammar.specs.declared.kinds.Kind.TheVariants as kind
use Rattle.asl_grammar.specs.grammar.Build.{chained}
use Rattle.asl_grammar.specs.grammar.Rules.{comparison, equality_rest}
use Rattle.asl_parse_expr.specs.private.Code.{cursor_of, reading, then}
use Rattle.asl_parse_expr.proofs.Loops.{run_chain}
use Rattle.asl_parse_expr.proofs.grammar.Grammar.equality_rest.Given as goal

abbrev pub invariant-loop-turn : goal.invariant-loop-turn
invariant-loop-turn g l = then (chained l.from l.fn.left) (reading l.self.depth equality_rest (cursor_of l.fn.tokens)) ≡ run_chain (reading l.self.depth comparison) (kind.Equal ∷ kind.NotEqual ∷ []) (kind.Equal ∷ kind.NotEqual ∷ []) l.from (l._turn-end - l._turn) l.left (cursor_of l.tokens)
