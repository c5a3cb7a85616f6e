use Rattle.std.proofs.Common.{◌≡◌, ◌-◌, ◌∷◌, []}
use Rattle.asl_grammar.specs.declared.kinds.Kind.TheVariants as kind
use Rattle.asl_grammar.specs.grammar.Rules.{name, label_list}
use Rattle.asl_parse_expr.specs.private.Code.{cursor_of, reading}
use Rattle.asl_parse_expr.proofs.Loops.{run_listed}
use Rattle.asl_parse_stmt.proofs.labels.label_list.Given as goal

abbrev pub invariant-loop-turn : goal.invariant-loop-turn
invariant-loop-turn l = reading l.depth label_list (cursor_of l.fn.tokens) ≡ run_listed (reading l.depth name) (kind.Comma ∷ []) (kind.Name ∷ kind.Getter ∷ kind.Setter ∷ []) (l._turn-end - l._turn) l.found (cursor_of l.tokens)
