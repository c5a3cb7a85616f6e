use Rattle.std.proofs.Common.{◌≡◌, drop}
use Rattle.asl_bits.specs.declared.TheConstants.{WIDTH_LIMIT}
use Rattle.asl_shape.specs.private.Filled.{first_fills}
use Rattle.asl_shape.specs.private.FilledView.{all_fills}
use Rattle.asl_shape.proofs.FirstFields.{parts_behind}
use Rattle.asl_shape.proofs.filled.+filled_first.Given as goal

-- those that were made are in front of those left
abbrev pub invariant-parts_first-loop-part : goal.invariant-parts_first-loop-part
invariant-parts_first-loop-part l = first_fills WIDTH_LIMIT l.whole (all_fills l.parts) ≡ parts_behind l.made (first_fills WIDTH_LIMIT l.whole (all_fills (drop l.part-index l.parts)))
