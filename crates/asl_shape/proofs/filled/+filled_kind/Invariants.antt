use Rattle.std.proofs.Common.{◌≡◌, drop}
use Rattle.std.specs.Prelude.{map}
use Rattle.asl_rules.specs.types.Closed.{kinds_at}
use Rattle.asl_value.specs.View.{kind_of}
use Rattle.asl_shape.specs.private.Filled.{closed_parts}
use Rattle.asl_shape.specs.private.FilledView.{all_fills}
use Rattle.asl_shape.proofs.ValueKinds.{in_front}
use Rattle.asl_shape.proofs.filled.+filled_kind.Given as goal

-- those that were made are in front of those left
abbrev pub invariant-filled_kinds-loop-part : goal.invariant-filled_kinds-loop-part
invariant-filled_kinds-loop-part l = kinds_at (closed_parts (all_fills l.parts)) ≡ in_front (map kind_of l.kinds) (kinds_at (closed_parts (all_fills (drop l.part-index l.parts))))
