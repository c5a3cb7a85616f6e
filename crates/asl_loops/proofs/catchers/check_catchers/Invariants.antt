use Rattle.std.proofs.Common.{◌≡◌, drop, map}
use Rattle.asl_rules.specs.Tests.{Tests}
use Rattle.asl_types.specs.Suits.{Suits}
use Rattle.asl_blocks.specs.private.Views.{body_of}
use Rattle.asl_loops.specs.private.CatcherViews.{catchers_of}
use Rattle.asl_blocks.specs.private.Walks.{after, catcher_step, nothing_gathered, walk_catcher}
use Rattle.asl_loops.proofs.catchers.check_catchers.Given as goal

abbrev pub invariant-loop-c : goal.invariant-loop-c
invariant-loop-c g l = record {
  same : l.names ≡ l.fn.names;
  rest : (t : Tests) → Suits t →
      after (catcher_step (body_of l.fn.names l.body)) (map (walk_catcher t) (drop l.c-index l.catchers)) (catchers_of l.so_far)
      ≡ after (catcher_step (body_of l.fn.names l.body)) (map (walk_catcher t) l.catchers) nothing_gathered;
}
