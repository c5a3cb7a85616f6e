use Rattle.std.proofs.Common.{map, get_or, refl}
use Rattle.std.specs.Prelude.{pos}
use Rattle.asl_bits.specs.declared.TheConstants.{WIDTH_LIMIT}
use Rattle.asl_rules.specs.values.Vectors as rules
use Rattle.asl_value.specs.declared.cuts.Slicing.{Slicing}
use Rattle.asl_value.specs.declared.cuts.Wide.{Wide}
use Rattle.asl_value.specs.declared.cuts.Low.TheVariants as low
use Rattle.asl_value.specs.declared.cuts.Breadth.TheVariants as breadth
use Rattle.asl_value.specs.private.Cutting.{slicing_of}
use Rattle.asl_value.proofs.SlicesRead.{wide_on, same_item}
use Rattle.asl_value.proofs.cuts.widths_of.Goals as goal

pub loop-slicing-preserved : goal.loop-slicing-preserved
loop-slicing-preserved c =
    let none : Slicing = record { low = low.At (pos 0); width = breadth.Of (pos 0) } in
    let slicing = get_or c.args.slicings.now c.loop-slicing.slicing-index none in
    let wide : Wide = record { low = slicing.low; width = c.in_ok-width.width } in
    wide_on c.args.span c.args.slicings.now c.loop-slicing.slicing-index slicing wide c.loop-slicing.made c.push.new.self
    (rules.widths_of WIDTH_LIMIT c.args.span (map slicing_of c.args.slicings.now)) c.loop-slicing-test.true
    (same_item c.args.slicings.now c.loop-slicing.slicing-index none slicing c.loop-slicing-test.true) refl c.in_ok-width.ensures c.in_ok-push.ensures.ok c.loop-slicing.invariant
