use Rattle.std.proofs.Common.{◌≡◌, drop, map}
use Rattle.asl_rules.specs.Tests.{Tests}
use Rattle.asl_types.specs.Suits.{Suits}
use Rattle.asl_blocks.specs.private.Views.{body_of}
use Rattle.asl_choices.specs.private.PartViews.{alternatives_of}
use Rattle.asl_blocks.specs.private.Walks.{after, alternative_step, nothing_gathered, walk_alternative}
use Rattle.asl_choices.proofs.cases.check_alternatives.Given as goal

abbrev pub invariant-loop-a : goal.invariant-loop-a
invariant-loop-a g l = record {
  same : l.names ≡ l.fn.names;
  rest : (t : Tests) → Suits t →
      after (alternative_step t l.ty (body_of l.fn.names l.body)) (map (walk_alternative t) (drop l.a-index l.alternatives)) (alternatives_of l.so_far)
      ≡ after (alternative_step t l.ty (body_of l.fn.names l.body)) (map (walk_alternative t) l.alternatives) nothing_gathered;
}
