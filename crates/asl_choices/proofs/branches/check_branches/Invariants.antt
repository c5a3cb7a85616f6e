use Rattle.std.proofs.Common.{◌≡◌, drop, map}
use Rattle.asl_rules.specs.Tests.{Tests}
use Rattle.asl_types.specs.Suits.{Suits}
use Rattle.asl_blocks.specs.private.Views.{body_of}
use Rattle.asl_choices.specs.private.PartViews.{branches_of}
use Rattle.asl_blocks.specs.private.Walks.{after, branch_step, walk_branch}
use Rattle.asl_choices.proofs.branches.check_branches.Given as goal

abbrev pub invariant-loop-b : goal.invariant-loop-b
invariant-loop-b g l = record {
  same : l.names ≡ l.fn.names;
  rest : (t : Tests) → Suits t →
      after (branch_step t (body_of l.fn.names l.body)) (map (walk_branch t) (drop l.b-index l.others)) (branches_of l.so_far)
      ≡ after (branch_step t (body_of l.fn.names l.body)) (map (walk_branch t) l.others) (branches_of l.fn.so_far);
}
