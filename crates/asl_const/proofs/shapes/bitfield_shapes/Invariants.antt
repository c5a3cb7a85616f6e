use Rattle.std.proofs.Common.{◌≡◌, ◌++◌, drop, map}
use Rattle.asl_rules.specs.types.Shaped.{itself, shapes_in}
use Rattle.asl_shape.specs.View.{all_bitfields}
use Rattle.asl_const.specs.private.Finds.{known_bitfield}
use Rattle.asl_const.proofs.shapes.bitfield_shapes.Given as goal

abbrev pub invariant-loop-field : goal.invariant-loop-field
invariant-loop-field l = all_bitfields l.shapes ++ shapes_in itself (map known_bitfield (drop l.field-index l.fields)) ≡ shapes_in itself (map known_bitfield l.fields)
