use Rattle.std.proofs.Common.{arith, refl, ap, sym, ◌∙◌}
use Rattle.asl_blocks.specs.private.Views.{body_of}
use Rattle.asl_loops.specs.private.CatcherViews.{catchers_of}
use Rattle.asl_blocks.specs.private.Walks.{catcher_step, walk_catcher}
use Rattle.asl_blocks.proofs.Chains.{after_mapped}
use Rattle.asl_blocks.proofs.SizeLemmas.{catcher_inside}
use Rattle.asl_loops.proofs.catchers.check_catchers.Goals as goal

pub check_catcher-requires : goal.check_catcher-requires
check_catcher-requires g c κs = ((refl, tt), (c.requires.blocks, catcher_inside c.args.catchers.now c.loop-c.c-index c.c-item.result _ (omega (arith, c.loop-c-test.true)) c.c-item.is c.requires.inside))

pub loop-c-preserved : goal.loop-c-preserved
loop-c-preserved g c = record {
  same = c.in_ok-check_catcher.ensures.kept ∙ c.loop-c.invariant.same;
  rest = λ q s.
      after_mapped (catcher_step (body_of c.args.names.now c.args.body.now)) (walk_catcher q) c.args.catchers.now c.loop-c.c-index c.c-item.result (catchers_of c.loop-c.so_far) (catchers_of c.check_catcher.new.so_far) _
      (omega (arith, c.loop-c-test.true)) c.c-item.is
      (sym (ap (λ names. catcher_step (body_of names c.args.body.now) (walk_catcher q c.c-item.result) (catchers_of c.loop-c.so_far)) c.loop-c.invariant.same) ∙ c.in_ok-check_catcher.ensures.rule q s)
      (c.loop-c.invariant.rest q s);
}
