use Rattle.std.proofs.Common.{◌≡◌, drop}
use Rattle.asl_shape.specs.private.Filling as rules
use Rattle.asl_shape.specs.private.Matched.{values_from}
use Rattle.asl_shape.specs.View.{all_bitfields}
use Rattle.asl_shape.proofs.Takes.{behind}
use Rattle.asl_shape.proofs.filling.next_fields.Given as goal

abbrev pub invariant-loop-shape : goal.invariant-loop-shape
invariant-loop-shape l = rules.all_fields (all_bitfields l.shapes) (values_from l.values l.at) ≡ behind l.fields (rules.all_fields (all_bitfields (drop l.shape-index l.shapes)) (values_from l.values l.next))
