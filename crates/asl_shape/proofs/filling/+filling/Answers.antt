use Rattle.std.proofs.Common.{sym, ap, ◌∙◌}
use Rattle.std.specs.Prelude.{option_map}
use Rattle.asl_shape.specs.private.Filling as rules
use Rattle.asl_shape.specs.private.FillingView.{type_taken}
use Rattle.asl_shape.specs.private.Matched.{values_from}
use Rattle.asl_shape.specs.View.{type_of, all_types}
use Rattle.asl_shape.proofs.Takes.{length_there, type_more}
use Rattle.asl_shape.proofs.filling.+filling.Goals as goal

pub array-returns-in_ok-filled-in-Some : goal.array-returns-in_ok-filled-in-Some
array-returns-in_ok-filled-in-Some t c =
    c.in_ok-filled-in-Some.ensures ∙ sym (length_there c.args.values.now c.args.at c.in-Some.length (type_of c.args.element.now) c.in-Some.ensures.value)

pub fillings-loop-part-preserved : goal.fillings-loop-part-preserved
fillings-loop-part-preserved t c =
    type_more c.args.parts.now c.loop-part.part-index c.part-item.result c.args.values.now c.loop-part.next c.in-Some.field-0 c.loop-part.types c.push.new.self
    (rules.all_fillings (all_types c.args.parts.now) (values_from c.args.values.now c.args.at)) c.loop-part-test.true c.part-item.is
    (sym (ap (option_map (type_taken c.args.values.now)) c.in-Some.is) ∙ c.in_ok-filling.ensures)
    c.in_ok-push-in-Some.ensures.ok c.loop-part.invariant
