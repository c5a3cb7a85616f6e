use Rattle.std.proofs.Common.{◌≡◌, drop, []}
use Rattle.asl_rules.specs.Tests.{Tests}
use Rattle.asl_types.specs.Suits.{Suits}
use Rattle.asl_choices.specs.private.PatternViews.{patterns_of}
use Rattle.asl_blocks.specs.private.Views.{body_of}
use Rattle.asl_blocks.specs.private.Walks.{after, pattern_step, patterned}
use Rattle.asl_choices.proofs.cases.check_patterns.Given as goal

abbrev pub invariant-loop-pattern : goal.invariant-loop-pattern
invariant-loop-pattern l = (t : Tests) → Suits t →
    after (pattern_step t l.ty (body_of l.names l.body).scope) (drop l.pattern-index l.patterns) (patterns_of l.so_far) ≡ after (pattern_step t l.ty (body_of l.names l.body).scope) l.patterns (patterned [] [])
