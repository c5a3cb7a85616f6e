use Rattle.std.proofs.Common.{◌≡◌, drop}
use Rattle.asl_rules.specs.values.Values.{all_in}
use Rattle.asl_value.specs.View.{all_values}
use Rattle.asl_shape.specs.private.Filled.{closed_of}
use Rattle.asl_shape.specs.private.FilledView.{filled_of}
use Rattle.asl_shape.proofs.FilledHaving.{parts_at}
use Rattle.asl_shape.proofs.filled.+filled_has.Given as goal

abbrev pub invariant-parts_have-loop-part : goal.invariant-parts_have-loop-part
invariant-parts_have-loop-part l = parts_at l.given l.parts ≡ parts_at l.rest (drop l.part-index l.parts)

abbrev pub invariant-all_have-loop-value : goal.invariant-all_have-loop-value
invariant-all_have-loop-value l = all_in (all_values l.given) (closed_of (filled_of l.ty)) ≡ all_in (all_values (drop l.value-index l.given)) (closed_of (filled_of l.ty))
