use Rattle.std.proofs.Common.{◌≡◌, ◌-◌}
use Rattle.asl_grammar.specs.grammar.Build.{behind}
use Rattle.asl_grammar.specs.grammar.Rules.{field_value, more_field_values}
use Rattle.asl_parse_expr.specs.private.Code.{cursor_of, reading, then}
use Rattle.asl_parse_expr.proofs.Loops.{run_more}
use Rattle.asl_parse_expr.proofs.grammar.Grammar.more_field_values.Given as goal

abbrev pub invariant-loop-turn : goal.invariant-loop-turn
invariant-loop-turn g l = then (behind l.fn.found) (reading l.self.depth more_field_values (cursor_of l.fn.tokens)) ≡ run_more (reading l.self.depth field_value) (l._turn-end - l._turn) l.found (cursor_of l.tokens)
