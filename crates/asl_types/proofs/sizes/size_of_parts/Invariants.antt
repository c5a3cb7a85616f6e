use Rattle.std.proofs.Common.{◌≡◌, ◌+◌, ◌≤◌, min, drop}
use Rattle.asl_rules.specs.types.Types as rules
use Rattle.asl_types.specs.View.{parts_of}
use Rattle.asl_types.proofs.sizes.size_of_parts.Given as goal

abbrev pub invariant-loop-part : goal.invariant-loop-part
invariant-loop-part l = record {
  below : l.total ≤ 65537;
  rest : min (l.total + rules.size_of_parts (parts_of (drop l.part-index l.parts))) 65537 ≡ min (rules.size_of_parts (parts_of l.parts)) 65537;
}
