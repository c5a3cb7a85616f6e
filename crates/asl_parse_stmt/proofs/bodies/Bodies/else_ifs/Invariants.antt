use Rattle.std.proofs.Common.{◌≡◌, ◌-◌, ◌∷◌, []}
use Rattle.asl_grammar.specs.declared.kinds.Kind.TheVariants as kind
use Rattle.asl_grammar.specs.grammar.Rules.{else_if, else_ifs}
use Rattle.asl_parse_expr.specs.private.Code.{cursor_of, reading}
use Rattle.asl_parse_expr.proofs.Loops.{run_items}
use Rattle.asl_parse_stmt.proofs.bodies.Bodies.else_ifs.Given as goal

abbrev pub invariant-loop-turn : goal.invariant-loop-turn
invariant-loop-turn g l = reading l.self.depth else_ifs (cursor_of l.fn.tokens) ≡ run_items (reading l.self.depth else_if) (kind.ElsIf ∷ []) (l._turn-end - l._turn) l.found (cursor_of l.tokens)
