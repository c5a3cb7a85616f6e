use Rattle.std.proofs.Common.{arith}
use Rattle.asl_simple.specs.private.PrintViews.{printed_of}
use Rattle.asl_blocks.specs.private.Views.{body_of}
use Rattle.asl_blocks.specs.private.Walks.{item_step}
use Rattle.asl_blocks.proofs.Chains.{after_one}
use Rattle.asl_simple.proofs.prints.check_items.Goals as goal

pub loop-item-preserved : goal.loop-item-preserved
loop-item-preserved c = λ t s.
    after_one (item_step t (body_of c.args.names.now c.args.body.now).scope) c.args.items.now c.loop-item.item-index c.item-item.result (printed_of c.loop-item.so_far) (printed_of c.check_item.new.so_far) _
    (omega (arith, c.loop-item-test.true)) c.item-item.is (c.in_ok-check_item.ensures t s) (c.loop-item.invariant t s)
