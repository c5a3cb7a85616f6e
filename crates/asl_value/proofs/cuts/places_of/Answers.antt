use Rattle.std.proofs.Common.{get_or, rules}
use Rattle.std.specs.Prelude.{pos}
use Rattle.asl_value.specs.declared.cuts.Wide.{Wide}
use Rattle.asl_value.specs.declared.cuts.Low.TheVariants as low
use Rattle.asl_value.proofs.SlicesRead.{placed, placed_on, placed_off, same_item}
use Rattle.asl_value.proofs.cuts.places_of.Goals as goal

pub returns-in_err-low : goal.returns-in_err-low
returns-in_err-low c =
    let none : Wide = record { low = low.At (pos 0); width = 0 } in
    let wide = get_or c.args.wides.now c.loop-wide.wide-index none in
    let off = placed_off c.args.span c.args.top c.args.wides.now c.loop-wide.wide-index wide c.in_err-low.field-0.0 c.loop-wide.made (placed c.args.span c.args.top c.args.wides.now)
    c.loop-wide-test.true (same_item c.args.wides.now c.loop-wide.wide-index none wide c.loop-wide-test.true) c.in_err-low.ensures c.loop-wide.invariant in
    search rules

pub loop-wide-preserved : goal.loop-wide-preserved
loop-wide-preserved c =
    let none : Wide = record { low = low.At (pos 0); width = 0 } in
    let wide = get_or c.args.wides.now c.loop-wide.wide-index none in
    placed_on c.args.span c.args.top c.args.wides.now c.loop-wide.wide-index wide c.in_ok-low.low c.new.result c.loop-wide.made c.push.new.self (placed c.args.span c.args.top c.args.wides.now)
    c.loop-wide-test.true (same_item c.args.wides.now c.loop-wide.wide-index none wide c.loop-wide-test.true) c.in_ok-low.ensures c.new.ensures c.in_ok-push.ensures.ok c.loop-wide.invariant
