use Rattle.std.proofs.Common.{◌≡◌, drop}
use Rattle.asl_shape.specs.private.Filling as rules
use Rattle.asl_shape.specs.private.Matched.{values_from}
use Rattle.asl_shape.specs.View.{all_parts}
use Rattle.asl_shape.proofs.Takes.{behind}
use Rattle.asl_shape.proofs.filling.next_parts.Given as goal

abbrev pub invariant-loop-shape : goal.invariant-loop-shape
invariant-loop-shape l = rules.all_parts (all_parts l.shapes) (values_from l.values l.at) ≡ behind l.parts (rules.all_parts (all_parts (drop l.shape-index l.shapes)) (values_from l.values l.next))
