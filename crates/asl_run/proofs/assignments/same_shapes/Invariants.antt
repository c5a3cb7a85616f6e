use Rattle.std.proofs.Common.{◌≡◌, take}
use Rattle.asl_run.proofs.assignments.same_shapes.Given as goal

abbrev pub invariant-loop-shape : goal.invariant-loop-shape
invariant-loop-shape l = l.same ≡ take l.shape-index l.shapes
