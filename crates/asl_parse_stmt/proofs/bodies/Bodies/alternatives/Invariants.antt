use Rattle.std.proofs.Common.{◌≡◌, ◌-◌, ◌∷◌, []}
use Rattle.asl_grammar.specs.declared.kinds.Kind.TheVariants as kind
use Rattle.asl_grammar.specs.grammar.Rules.{alternative, alternatives}
use Rattle.asl_parse_expr.specs.private.Code.{cursor_of, reading}
use Rattle.asl_parse_expr.proofs.Loops.{run_items}
use Rattle.asl_parse_stmt.proofs.bodies.Bodies.alternatives.Given as goal

abbrev pub invariant-loop-turn : goal.invariant-loop-turn
invariant-loop-turn g l = reading l.self.depth alternatives (cursor_of l.fn.tokens) ≡ run_items (reading l.self.depth alternative) (kind.When ∷ []) (l._turn-end - l._turn) l.found (cursor_of l.tokens)
