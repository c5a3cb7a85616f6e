use Rattle.std.proofs.Common.{arith}
use Rattle.asl_expr.proofs.SliceLemmas.{shapes_next, shapes_last}
use Rattle.asl_expr.proofs.slices.slice_shapes.Goals as goal

pub loop-s-preserved : goal.loop-s-preserved
loop-s-preserved c t =
    shapes_next t _ c.args.slices.now c.loop-s.s-index c.s-item.result c.loop-s.shapes c.push.new.self c.shape.result
    (omega (arith, c.loop-s-test.true)) c.s-item.is (c.shape.ensures t) c.in_ok-push.ensures.ok (c.loop-s.invariant t)

pub returns : goal.returns
returns c t = shapes_last t _ c.args.slices.now c.loop-s.s-index c.loop-s.shapes (omega (arith, c.loop-s-test.false)) (c.loop-s.invariant t)
