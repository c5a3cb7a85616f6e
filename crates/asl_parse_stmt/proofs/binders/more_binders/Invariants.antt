use Rattle.std.proofs.Common.{◌≡◌, ◌-◌}
use Rattle.asl_grammar.specs.grammar.Build.{behind}
use Rattle.asl_grammar.specs.grammar.Rules.{binder, more_binders}
use Rattle.asl_parse_expr.specs.private.Code.{cursor_of, reading, then}
use Rattle.asl_parse_expr.proofs.Loops.{run_more}
use Rattle.asl_parse_stmt.proofs.binders.more_binders.Given as goal

abbrev pub invariant-loop-turn : goal.invariant-loop-turn
invariant-loop-turn l = then (behind l.fn.found) (reading l.depth more_binders (cursor_of l.fn.tokens)) ≡ run_more (reading l.depth binder) (l._turn-end - l._turn) l.found (cursor_of l.tokens)
