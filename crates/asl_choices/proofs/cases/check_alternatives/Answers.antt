use Rattle.std.proofs.Common.{arith, refl, ap, sym, ◌∙◌}
use Rattle.asl_blocks.specs.private.Views.{body_of}
use Rattle.asl_choices.specs.private.PartViews.{alternatives_of}
use Rattle.asl_blocks.specs.private.Walks.{alternative_step, walk_alternative}
use Rattle.asl_blocks.proofs.Chains.{after_mapped}
use Rattle.asl_blocks.proofs.SizeLemmas.{alternative_inside}
use Rattle.asl_choices.proofs.cases.check_alternatives.Goals as goal

pub check_alternative-requires : goal.check_alternative-requires
check_alternative-requires g c κs = ((refl, tt), (c.requires.blocks, alternative_inside c.args.alternatives.now c.loop-a.a-index c.a-item.result _ (omega (arith, c.loop-a-test.true)) c.a-item.is c.requires.inside))

pub loop-a-preserved : goal.loop-a-preserved
loop-a-preserved g c = record {
  same = c.in_ok-check_alternative.ensures.kept ∙ c.loop-a.invariant.same;
  rest = λ q s.
      after_mapped (alternative_step q c.args.ty.now (body_of c.args.names.now c.args.body.now)) (walk_alternative q) c.args.alternatives.now c.loop-a.a-index c.a-item.result (alternatives_of c.loop-a.so_far) (alternatives_of c.check_alternative.new.so_far) _
      (omega (arith, c.loop-a-test.true)) c.a-item.is
      (sym (ap (λ names. alternative_step q c.args.ty.now (body_of names c.args.body.now) (walk_alternative q c.a-item.result) (alternatives_of c.loop-a.so_far)) c.loop-a.invariant.same) ∙ c.in_ok-check_alternative.ensures.rule q s)
      (c.loop-a.invariant.rest q s);
}
