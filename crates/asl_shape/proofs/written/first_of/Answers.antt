use Rattle.std.proofs.Common.{sym, ap, ◌∙◌, subst}
use Rattle.std.specs.Prelude.{map, option_map}
use Rattle.asl_bits.specs.declared.TheConstants.{WIDTH_LIMIT}
use Rattle.asl_value.specs.private.Answers.{Is}
use Rattle.asl_value.specs.View.{value_of}
use Rattle.asl_shape.specs.private.FillingView.{type_taken}
use Rattle.asl_shape.specs.View.{type_of}
use Rattle.asl_shape.proofs.WrittenFirsts.{first_is}
use Rattle.asl_shape.proofs.written.first_of.Goals as goal

pub returns-in-Some : goal.returns-in-Some
returns-in-Some c = subst (Is value_of c.filled_first.result)
    (sym (first_is WIDTH_LIMIT c.args.span c.args.whole (type_of c.args.shape.now) (map value_of c.args.values.now) (type_taken c.args.values.now c.in-Some.filled)
    (sym (ap (option_map (type_taken c.args.values.now)) c.in-Some.is) ∙ c.in_ok-filling.ensures))) c.filled_first.ensures
