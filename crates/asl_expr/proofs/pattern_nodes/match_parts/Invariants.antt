use Rattle.std.proofs.Common.{◌≡◌, drop, Ok}
use Rattle.asl_rules.specs.Faults.{◌>>=◌}
use Rattle.asl_rules.specs.expressions.Patterns as rules
use Rattle.asl_rules.specs.Tests.{Tests}
use Rattle.asl_subprograms.specs.private.ContextView.{scope_of}
use Rattle.asl_types.specs.Suits.{Suits}
use Rattle.asl_types.specs.View.{parts_of}
use Rattle.asl_expr.specs.PatternViews.{found_patterns, matches_view, no_matches, with_matches, behind_matches}
use Rattle.asl_expr.proofs.pattern_nodes.match_parts.Given as goal

abbrev pub invariant-loop-i : goal.invariant-loop-i
invariant-loop-i g l = (t : Tests) → Suits t →
    (rules.parts_match (found_patterns t l.patterns) (parts_of l.parts) (scope_of l.here.context) >>= λ ms. Ok (with_matches no_matches ms)) ≡ behind_matches (matches_view l.made) (rules.parts_match (found_patterns t (drop l.i l.patterns)) (parts_of (drop l.i l.parts)) (scope_of l.here.context))
