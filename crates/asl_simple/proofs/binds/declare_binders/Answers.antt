use Rattle.std.proofs.Common.{arith}
use Rattle.asl_types.specs.View.{parts_of}
use Rattle.asl_blocks.proofs.Turns.{binders_loop}
use Rattle.asl_simple.proofs.binds.declare_binders.Goals as goal

pub loop-binder-preserved : goal.loop-binder-preserved
loop-binder-preserved c =
    binders_loop c.args.binders.now c.loop-binder.binder-index c.binder-item.result c.args.kind c.args.written.now (parts_of c.loop-binder.rest.now) _ c.loop-binder.as_many _ _ _ c.loop-binder.names c.declare_binder.new.names _
    (omega (arith, c.loop-binder-test.true)) c.binder-item.is c.in_ok-part.ensures c.in_ok-ty.ensures c.other_parts-rest.ensures c.has_one_more-as_many.ensures c.in_ok-declare_binder.ensures c.loop-binder.invariant
