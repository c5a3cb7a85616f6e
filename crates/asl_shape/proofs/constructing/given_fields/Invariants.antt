use Rattle.std.proofs.Common.{◌≡◌, drop}
use Rattle.std.specs.Prelude.{map}
use Rattle.asl_rules.specs.private.ByPlace as places
use Rattle.asl_value.specs.View.{value_of}
use Rattle.asl_shape.specs.View.{all_given}
use Rattle.asl_shape.proofs.Fields.{fields_with}
use Rattle.asl_shape.proofs.constructing.given_fields.Given as goal

-- those that were made are in front of those left
abbrev pub invariant-loop-field : goal.invariant-loop-field
invariant-loop-field l = places.fields_from (all_given l.fields) (map value_of l.values) ≡ fields_with l.made (drop l.field-index l.fields) l.values
