use Rattle.std.proofs.Common.{◌≡◌, drop}
use Rattle.std.specs.Prelude.{map}
use Rattle.asl_rules.specs.private.TypedMeaning as rules
use Rattle.asl_value.specs.View.{value_of}
use Rattle.asl_shape.proofs.OmittedWidths.{behind}
use Rattle.asl_shape.proofs.widths.widths_of.Given as goal

-- those that were found are in front of those left
abbrev pub invariant-loop-place : goal.invariant-loop-place
invariant-loop-place l = rules.widths_of l.span l.places (map value_of l.args) ≡ behind l.widths.items (rules.widths_of l.span (drop l.place-index l.places) (map value_of l.args))
