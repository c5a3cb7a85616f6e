use Rattle.std.proofs.Common.{◌≡◌, drop}
use Rattle.asl_bits.specs.declared.TheConstants.{WIDTH_LIMIT}
use Rattle.asl_shape.proofs.FirstFields.{fields_first, fields_behind, parts_first, parts_behind}
use Rattle.asl_shape.proofs.firsts.+first_value.Given as goal

-- those that were made are in front of those left
abbrev pub invariant-first_fields-loop-field : goal.invariant-first_fields-loop-field
invariant-first_fields-loop-field l = fields_first WIDTH_LIMIT l.span l.fields ≡ fields_behind l.made (fields_first WIDTH_LIMIT l.span (drop l.field-index l.fields))

abbrev pub invariant-first_parts-loop-part : goal.invariant-first_parts-loop-part
invariant-first_parts-loop-part l = parts_first WIDTH_LIMIT l.span l.parts ≡ parts_behind l.made (parts_first WIDTH_LIMIT l.span (drop l.part-index l.parts))
