use Rattle.std.proofs.Common.{◌≡◌, ◌-◌}
use Rattle.asl_grammar.specs.grammar.Rules.{name, names}
use Rattle.asl_parse_expr.specs.private.Code.{cursor_of, reading}
use Rattle.asl_parse_expr.proofs.Loops.{run_more}
use Rattle.asl_parse_expr.proofs.names.names.Given as goal

abbrev pub invariant-loop-turn : goal.invariant-loop-turn
invariant-loop-turn l = reading l.depth names (cursor_of l.fn.tokens) ≡ run_more (reading l.depth name) (l._turn-end - l._turn) l.found (cursor_of l.tokens)
