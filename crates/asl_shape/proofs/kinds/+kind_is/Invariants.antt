use Rattle.std.proofs.Common.{◌≡◌, drop}
use Rattle.asl_rules.specs.types.Types.{kinds, kinds_eq}
use Rattle.asl_types.specs.View.{parts_of}
use Rattle.asl_value.specs.View.{all_kinds}
use Rattle.asl_shape.proofs.kinds.+kind_is.Given as goal

-- those so far are the same
abbrev pub invariant-kinds_are-loop-part : goal.invariant-kinds_are-loop-part
invariant-kinds_are-loop-part l = kinds_eq (all_kinds l.kinds) (kinds (parts_of l.parts)) ≡ kinds_eq (all_kinds l.rest) (kinds (parts_of (drop l.part-index l.parts)))
