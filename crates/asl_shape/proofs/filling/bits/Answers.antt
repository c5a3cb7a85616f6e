use Rattle.std.proofs.Common.{◌≡◌, ◌+◌, sym, ◌∙◌, rules}
use Rattle.std.specs.Prelude.{option_map}
use Rattle.asl_shape.specs.private.Filled.{bits_of}
use Rattle.asl_shape.specs.private.Filling.{made_as, all_fields}
use Rattle.asl_shape.specs.private.FillingView.{type_taken}
use Rattle.asl_shape.specs.private.Matched.{values_from}
use Rattle.asl_shape.specs.View.{all_bitfields}
use Rattle.asl_shape.proofs.Takes.{width_there}
use Rattle.asl_shape.proofs.filling.bits.Goals as goal

pub returns-in_ok-filled-in-Some : goal.returns-in_ok-filled-in-Some
returns-in_ok-filled-in-Some c =
    let h : option_map (type_taken c.args.values.now) c.in_ok-filled-in-Some.filled ≡ made_as (bits_of c.args.span c.in-Some.width) (all_fields (all_bitfields c.args.fields.now) (values_from c.args.values.now (c.args.at + 1))) = search rules in
    h ∙ sym (width_there c.args.values.now c.args.at c.in-Some.width c.args.span (all_bitfields c.args.fields.now) c.in-Some.ensures.value)
