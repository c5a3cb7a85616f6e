use Rattle.std.proofs.Common.{◌≡◌, ◌-◌}
use Rattle.asl_grammar.specs.grammar.Rules.{formal, formal_list}
use Rattle.asl_parse_expr.specs.private.Code.{cursor_of, reading}
use Rattle.asl_parse_expr.proofs.Loops.{run_more}
use Rattle.asl_parse_stmt.proofs.formals.formal_list.Given as goal

abbrev pub invariant-loop-turn : goal.invariant-loop-turn
invariant-loop-turn l = reading l.depth formal_list (cursor_of l.fn.tokens) ≡ run_more (reading l.depth formal) (l._turn-end - l._turn) l.found (cursor_of l.tokens)
