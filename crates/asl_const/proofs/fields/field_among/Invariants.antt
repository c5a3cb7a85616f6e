use Rattle.std.proofs.Common.{◌≡◌, drop}
use Rattle.asl_rules.specs.values.Structures.{field_value}
use Rattle.asl_value.specs.View.{all_fields}
use Rattle.asl_const.proofs.fields.field_among.Given as goal

abbrev pub invariant-loop-field : goal.invariant-loop-field
invariant-loop-field l = field_value l.name (all_fields (drop l.field-index l.fields)) ≡ field_value l.name (all_fields l.fields)
