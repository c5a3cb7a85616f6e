use Rattle.std.proofs.Common.{◌≡◌, drop, map}
use Rattle.asl_rules.specs.values.Vectors.{slicings}
use Rattle.asl_value.specs.View.{value_of, all_slices}
use Rattle.asl_value.proofs.SlicesRead.{slicings_behind}
use Rattle.asl_value.proofs.cuts.slicings_of.Given as goal

-- those that were read stand in front of those left
abbrev pub invariant-loop-shape : goal.invariant-loop-shape
invariant-loop-shape l = slicings (all_slices l.shapes) (map value_of l.given) ≡ slicings_behind l.made (slicings (all_slices (drop l.shape-index l.shapes)) (map value_of l.left))
