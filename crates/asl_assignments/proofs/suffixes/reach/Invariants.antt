use Rattle.std.proofs.Common.{◌≡◌, [], map, reverse, length}
use Rattle.asl_rules.specs.statements.Targets.{reached}
use Rattle.asl_rules.specs.Tests.{Tests}
use Rattle.asl_types.specs.Suits.{Suits}
use Rattle.asl_tree.specs.Acts.{step_of}
use Rattle.asl_assignments.specs.private.TargetViews.{suffix_of}
use Rattle.asl_blocks.specs.private.Views.{body_of}
use Rattle.asl_blocks.specs.private.Walks.{after, reach_step}
use Rattle.asl_assignments.proofs.suffixes.reach.Given as goal

abbrev pub invariant-loop-suffix : goal.invariant-loop-suffix
invariant-loop-suffix l = (t : Tests) → Suits t →
    after (reach_step (body_of l.names l.body).scope) (map (suffix_of t) (reverse l.rest.items)) (reached l.reached (map step_of l.steps))
    ≡ after (reach_step (body_of l.names l.body).scope) (map (suffix_of t) l.fn.suffixes.items) (reached l.fn.ty [])

abbrev pub decreases-loop-suffix : goal.decreases-loop-suffix
decreases-loop-suffix l = length l.rest.items
