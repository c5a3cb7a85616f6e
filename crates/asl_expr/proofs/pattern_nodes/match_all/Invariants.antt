use Rattle.std.proofs.Common.{◌≡◌, drop, Ok}
use Rattle.asl_rules.specs.Faults.{◌>>=◌}
use Rattle.asl_rules.specs.expressions.Patterns as rules
use Rattle.asl_rules.specs.Tests.{Tests}
use Rattle.asl_subprograms.specs.private.ContextView.{scope_of}
use Rattle.asl_types.specs.Suits.{Suits}
use Rattle.asl_expr.specs.PatternViews.{found_patterns, matches_view, no_matches, with_matches, behind_matches}
use Rattle.asl_expr.proofs.pattern_nodes.match_all.Given as goal

abbrev pub invariant-loop-p : goal.invariant-loop-p
invariant-loop-p g l = (t : Tests) → Suits t →
    (rules.all_match (found_patterns t l.patterns) l.ty (scope_of l.here.context) >>= λ ms. Ok (with_matches no_matches ms)) ≡ behind_matches (matches_view l.made) (rules.all_match (found_patterns t (drop l.p-index l.patterns)) l.ty (scope_of l.here.context))
