use Rattle.std.proofs.Common.{◌≡◌, ◌++◌, drop, map}
use Rattle.asl_rules.specs.types.Shaped.{itself, shapes_in}
use Rattle.asl_value.specs.View.{all_slices}
use Rattle.asl_const.specs.private.Finds.{known_slice}
use Rattle.asl_const.proofs.shapes.slice_shapes.Given as goal

abbrev pub invariant-loop-slice : goal.invariant-loop-slice
invariant-loop-slice l = all_slices l.shapes ++ shapes_in itself (map known_slice (drop l.slice-index l.slices)) ≡ shapes_in itself (map known_slice l.slices)
