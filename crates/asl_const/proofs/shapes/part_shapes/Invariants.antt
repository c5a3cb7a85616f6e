use Rattle.std.proofs.Common.{◌≡◌, ◌++◌, drop, map}
use Rattle.asl_rules.specs.types.Shaped.{itself, shapes_in}
use Rattle.asl_shape.specs.View.{all_parts}
use Rattle.asl_const.specs.private.Finds.{known_part}
use Rattle.asl_const.proofs.shapes.part_shapes.Given as goal

abbrev pub invariant-loop-part : goal.invariant-loop-part
invariant-loop-part l = all_parts l.shapes ++ shapes_in itself (map known_part (drop l.part-index l.parts)) ≡ shapes_in itself (map known_part l.parts)
