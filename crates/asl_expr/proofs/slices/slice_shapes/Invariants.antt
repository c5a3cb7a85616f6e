use Rattle.std.proofs.Common.{◌≡◌, ◌++◌, drop}
use Rattle.asl_rules.specs.expressions.Slicing.{shapes_of}
use Rattle.asl_rules.specs.statements.Targets.{found_slices}
use Rattle.asl_rules.specs.Tests.{Tests}
use Rattle.asl_value.specs.View.{all_slices}
use Rattle.asl_expr.proofs.slices.slice_shapes.Given as goal

abbrev pub invariant-loop-s : goal.invariant-loop-s
invariant-loop-s l = (t : Tests) → all_slices l.shapes ++ shapes_of (found_slices t (drop l.s-index l.slices)) ≡ shapes_of (found_slices t l.slices)
