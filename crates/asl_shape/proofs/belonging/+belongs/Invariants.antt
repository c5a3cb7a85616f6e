use Rattle.std.proofs.Common.{◌≡◌, drop}
use Rattle.asl_rules.specs.types.Closed.{closed}
use Rattle.asl_rules.specs.values.Values.{all_in}
use Rattle.asl_value.specs.View.{all_values}
use Rattle.asl_shape.proofs.Having.{fields_at, parts_at}
use Rattle.asl_shape.proofs.belonging.+belongs.Given as goal

abbrev pub invariant-fields_belong-loop-field : goal.invariant-fields_belong-loop-field
invariant-fields_belong-loop-field l = fields_at l.given l.fields ≡ fields_at l.rest (drop l.field-index l.fields)

abbrev pub invariant-parts_belong-loop-part : goal.invariant-parts_belong-loop-part
invariant-parts_belong-loop-part l = parts_at l.given l.parts ≡ parts_at l.rest (drop l.part-index l.parts)

abbrev pub invariant-all_belong-loop-value : goal.invariant-all_belong-loop-value
invariant-all_belong-loop-value l = all_in (all_values l.values) (closed l.ty) ≡ all_in (all_values (drop l.value-index l.values)) (closed l.ty)
