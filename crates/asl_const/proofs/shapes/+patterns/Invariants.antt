use Rattle.std.proofs.Common.{◌≡◌, ◌++◌, drop, map}
use Rattle.asl_rules.specs.types.Shaped.{itself, shapes_in}
use Rattle.asl_shape.specs.View.{pattern_of}
use Rattle.asl_const.specs.private.Finds.{known_pattern}
use Rattle.asl_const.proofs.shapes.+patterns.Given as goal

abbrev pub invariant-pattern_shapes-loop-pattern : goal.invariant-pattern_shapes-loop-pattern
invariant-pattern_shapes-loop-pattern l = map pattern_of l.shapes ++ shapes_in itself (map known_pattern (drop l.pattern-index l.patterns)) ≡ shapes_in itself (map known_pattern l.patterns)
