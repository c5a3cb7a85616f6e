use Rattle.std.proofs.Common.{◌≡◌, drop}
use Rattle.asl_rules.specs.types.Closed.{lowest}
use Rattle.asl_shape.proofs.Ranges.{ranges}
use Rattle.asl_shape.proofs.numbers.lowest.Given as goal

abbrev pub invariant-loop-part : goal.invariant-loop-part
invariant-loop-part l = lowest (ranges l.parts) ≡ lowest (ranges (drop l.part-index l.parts))
