use Rattle.std.proofs.Common.{◌≡◌, drop}
use Rattle.asl_shape.specs.private.Filling as rules
use Rattle.asl_shape.specs.private.Matched.{values_from}
use Rattle.asl_shape.specs.View.{all_types}
use Rattle.asl_shape.proofs.Takes.{types_behind}
use Rattle.asl_shape.proofs.filling.+filling.Given as goal

abbrev pub invariant-fillings-loop-part : goal.invariant-fillings-loop-part
invariant-fillings-loop-part l = rules.all_fillings (all_types l.parts) (values_from l.values l.at) ≡ types_behind l.types (rules.all_fillings (all_types (drop l.part-index l.parts)) (values_from l.values l.next))
