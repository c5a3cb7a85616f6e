use Rattle.std.proofs.Common.{◌≡◌, min, max, drop}
use Rattle.asl_rules.specs.types.Types as rules
use Rattle.asl_types.specs.View.{fields_of}
use Rattle.asl_types.proofs.sizes.depth_of_fields.Given as goal

abbrev pub invariant-loop-field : goal.invariant-loop-field
invariant-loop-field l = max l.deepest (min (rules.depth_of_fields (fields_of (drop l.field-index l.fields))) 101) ≡ min (rules.depth_of_fields (fields_of l.fields)) 101
