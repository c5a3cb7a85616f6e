use Rattle.std.proofs.Common.{◌≡◌, ◌+◌, ◌≤◌, min, drop}
use Rattle.asl_rules.specs.types.Types as rules
use Rattle.asl_types.specs.View.{fields_of}
use Rattle.asl_types.proofs.sizes.size_of_fields.Given as goal

abbrev pub invariant-loop-field : goal.invariant-loop-field
invariant-loop-field l = record {
  below : l.total ≤ 65537;
  rest : min (l.total + rules.size_of_fields (fields_of (drop l.field-index l.fields))) 65537 ≡ min (rules.size_of_fields (fields_of l.fields)) 65537;
}
