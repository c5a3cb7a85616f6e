use Rattle.std.proofs.Common.{◌≡◌, ◌-◌}
use Rattle.asl_grammar.specs.grammar.Build.{behind}
use Rattle.asl_grammar.specs.grammar.Rules.{more_types, type_expression}
use Rattle.asl_parse_expr.specs.private.Code.{cursor_of, reading, then}
use Rattle.asl_parse_expr.proofs.Loops.{run_more}
use Rattle.asl_parse_expr.proofs.grammar.Grammar.more_types.Given as goal

abbrev pub invariant-loop-turn : goal.invariant-loop-turn
invariant-loop-turn g l = then (behind l.fn.found) (reading l.self.depth more_types (cursor_of l.fn.tokens)) ≡ run_more (reading l.self.depth type_expression) (l._turn-end - l._turn) l.found (cursor_of l.tokens)
