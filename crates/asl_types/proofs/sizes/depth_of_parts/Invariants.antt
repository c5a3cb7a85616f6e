use Rattle.std.proofs.Common.{◌≡◌, min, max, drop}
use Rattle.asl_rules.specs.types.Types as rules
use Rattle.asl_types.specs.View.{parts_of}
use Rattle.asl_types.proofs.sizes.depth_of_parts.Given as goal

abbrev pub invariant-loop-part : goal.invariant-loop-part
invariant-loop-part l = max l.deepest (min (rules.depth_of_parts (parts_of (drop l.part-index l.parts))) 101) ≡ min (rules.depth_of_parts (parts_of l.parts)) 101
