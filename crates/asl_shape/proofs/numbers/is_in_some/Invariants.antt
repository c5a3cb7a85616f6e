use Rattle.std.proofs.Common.{◌≡◌, drop}
use Rattle.asl_rules.specs.types.Closed.{in_some}
use Rattle.asl_shape.proofs.Ranges.{ranges}
use Rattle.asl_shape.proofs.numbers.is_in_some.Given as goal

abbrev pub invariant-loop-part : goal.invariant-loop-part
invariant-loop-part l = in_some l.z (ranges l.parts) ≡ in_some l.z (ranges (drop l.part-index l.parts))
