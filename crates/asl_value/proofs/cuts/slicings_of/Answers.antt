use Rattle.std.proofs.Common.{map, get_or}
use Rattle.asl_rules.specs.values.Vectors.{slicings}
use Rattle.asl_value.specs.declared.slices.SliceShape.TheVariants.{AtBit}
use Rattle.asl_value.specs.View.{value_of, all_slices}
use Rattle.asl_value.proofs.SlicesRead.{cut_on, same_item}
use Rattle.asl_value.proofs.cuts.slicings_of.Goals as goal

pub loop-shape-preserved : goal.loop-shape-preserved
loop-shape-preserved c =
    let shape = get_or c.args.shapes.now c.loop-shape.shape-index AtBit in
    cut_on c.args.shapes.now c.loop-shape.shape-index shape (map value_of c.loop-shape.left.now) (map value_of c.in-Some.others.now) c.in-Some.slicing c.loop-shape.made c.push.new.self
    (slicings (all_slices c.args.shapes.now) (map value_of c.args.given.now)) c.loop-shape-test.true
    (same_item c.args.shapes.now c.loop-shape.shape-index AtBit shape c.loop-shape-test.true) c.in-Some.ensures c.in_ok-push-in-Some.ensures.ok c.loop-shape.invariant
