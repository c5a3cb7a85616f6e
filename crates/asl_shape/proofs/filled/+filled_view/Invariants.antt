use Rattle.std.proofs.Common.{◌≡◌, drop}
use Rattle.asl_rules.specs.types.Views.{parts_viewed, all_viewed}
use Rattle.asl_value.specs.View.{all_values}
use Rattle.asl_value.proofs.Lists.{in_front}
use Rattle.asl_shape.specs.private.Filled.{closed_of, closed_parts}
use Rattle.asl_shape.specs.private.FilledView.{filled_of, all_fills}
use Rattle.asl_shape.proofs.filled.+filled_view.Given as goal

-- those that were made are in front of those left
abbrev pub invariant-parts_view-loop-i : goal.invariant-parts_view-loop-i
invariant-parts_view-loop-i l =
    parts_viewed (closed_parts (all_fills l.parts)) (all_values l.given) ≡ in_front l.made (parts_viewed (closed_parts (all_fills (drop l.i l.parts))) (all_values (drop l.i l.given)))

abbrev pub invariant-all_view-loop-value : goal.invariant-all_view-loop-value
invariant-all_view-loop-value l =
    all_viewed (closed_of (filled_of l.ty)) (all_values l.given) ≡ in_front l.made (all_viewed (closed_of (filled_of l.ty)) (all_values (drop l.value-index l.given)))
