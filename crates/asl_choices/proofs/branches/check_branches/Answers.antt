use Rattle.std.proofs.Common.{arith, refl, ap, sym, ◌∙◌}
use Rattle.asl_blocks.specs.private.Views.{body_of}
use Rattle.asl_choices.specs.private.PartViews.{branches_of}
use Rattle.asl_blocks.specs.private.Walks.{branch_step, walk_branch}
use Rattle.asl_blocks.proofs.Chains.{after_mapped}
use Rattle.asl_blocks.proofs.SizeLemmas.{branch_inside}
use Rattle.asl_choices.proofs.branches.check_branches.Goals as goal

pub check_branch-requires : goal.check_branch-requires
check_branch-requires g c κs = ((refl, tt), (c.requires.blocks, branch_inside c.args.others.now c.loop-b.b-index c.b-item.result _ (omega (arith, c.loop-b-test.true)) c.b-item.is c.requires.inside))

pub loop-b-preserved : goal.loop-b-preserved
loop-b-preserved g c = record {
  same = c.in_ok-check_branch.ensures.kept ∙ c.loop-b.invariant.same;
  rest = λ q s.
      after_mapped (branch_step q (body_of c.args.names.now c.args.body.now)) (walk_branch q) c.args.others.now c.loop-b.b-index c.b-item.result (branches_of c.loop-b.so_far) (branches_of c.check_branch.new.so_far) _
      (omega (arith, c.loop-b-test.true)) c.b-item.is
      (sym (ap (λ names. branch_step q (body_of names c.args.body.now) (walk_branch q c.b-item.result) (branches_of c.loop-b.so_far)) c.loop-b.invariant.same) ∙ c.in_ok-check_branch.ensures.rule q s)
      (c.loop-b.invariant.rest q s);
}
