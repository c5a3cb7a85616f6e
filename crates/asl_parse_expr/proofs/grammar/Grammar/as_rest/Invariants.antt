use Rattle.std.proofs.Common.{◌≡◌, ◌-◌}
use Rattle.asl_grammar.specs.grammar.Build.{as_chained}
use Rattle.asl_grammar.specs.grammar.Rules.{as_rest, as_type}
use Rattle.asl_parse_expr.specs.private.Code.{cursor_of, reading, then}
use Rattle.asl_parse_expr.proofs.Loops.{run_as_chain}
use Rattle.asl_parse_expr.proofs.grammar.Grammar.as_rest.Given as goal

abbrev pub invariant-loop-turn : goal.invariant-loop-turn
invariant-loop-turn g l = then (as_chained l.from l.fn.left) (reading l.self.depth as_rest (cursor_of l.fn.tokens)) ≡ run_as_chain (reading l.self.depth as_type) l.from (l._turn-end - l._turn) l.left (cursor_of l.tokens)
