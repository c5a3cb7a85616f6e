use Rattle.std.proofs.Common.{◌≡◌, ◌+◌, ◌*◌, ◌-◌}
use Rattle.asl_grammar.specs.grammar.Build.{behind}
use Rattle.asl_grammar.specs.grammar.Rules.{target, more_targets}
use Rattle.asl_parse_expr.specs.private.Code.{cursor_of, reading, then}
use Rattle.asl_parse_expr.proofs.Loops.{run_more}
use Rattle.asl_parse_stmt.proofs.targets.+targets.Given as goal

abbrev pub decreases-target : goal.decreases-target
decreases-target l = l.depth * 4 + 1

abbrev pub decreases-more_targets : goal.decreases-more_targets
decreases-more_targets l = l.depth * 4 + 2

abbrev pub decreases-two_targets : goal.decreases-two_targets
decreases-two_targets l = l.depth * 4 + 3

abbrev pub decreases-targets : goal.decreases-targets
decreases-targets l = l.depth * 4

abbrev pub invariant-more_targets-loop-turn : goal.invariant-more_targets-loop-turn
invariant-more_targets-loop-turn l = then (behind l.fn.found) (reading l.depth more_targets (cursor_of l.fn.tokens)) ≡ run_more (reading l.depth target) (l._turn-end - l._turn) l.found (cursor_of l.tokens)
