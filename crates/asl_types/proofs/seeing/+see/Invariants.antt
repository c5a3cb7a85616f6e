use Rattle.std.proofs.Common.{◌≡◌, drop}
use Rattle.asl_rules.specs.private.ByPlace.{parts_seen_as, all_seen_as}
use Rattle.asl_value.specs.View.{all_values}
use Rattle.asl_value.proofs.Lists.{in_front}
use Rattle.asl_types.specs.View.{parts_of}
use Rattle.asl_types.proofs.seeing.+see.Given as goal

-- those that were made are in front of those left
abbrev pub invariant-see_parts-loop-i : goal.invariant-see_parts-loop-i
invariant-see_parts-loop-i l = parts_seen_as (parts_of l.parts) (all_values l.values) ≡ in_front l.made (parts_seen_as (parts_of (drop l.i l.parts)) (all_values (drop l.i l.values)))

abbrev pub invariant-see_all-loop-value : goal.invariant-see_all-loop-value
invariant-see_all-loop-value l = all_seen_as l.element (all_values l.values) ≡ in_front l.made (all_seen_as l.element (all_values (drop l.value-index l.values)))
