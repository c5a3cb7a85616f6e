use Rattle.std.proofs.Common.{◌≡◌, [], drop, map}
use Rattle.asl_rules.specs.runs.ByNames.{types_among}
use Rattle.asl_rules.specs.types.Shaped.{itself, shapes_in}
use Rattle.asl_shape.specs.View.{type_of}
use Rattle.asl_const.specs.private.Finds.{types_after, known_type}
use Rattle.asl_const.proofs.shapes.+types.Given as goal

abbrev pub invariant-type_shapes-loop-ty : goal.invariant-type_shapes-loop-ty
invariant-type_shapes-loop-ty l = types_after (map type_of l.shapes) (types_among l.names) (shapes_in itself (map known_type (drop l.ty-index l.types))) ≡ types_after [] (types_among l.names) (shapes_in itself (map known_type l.types))
