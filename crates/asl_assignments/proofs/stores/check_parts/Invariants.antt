use Rattle.std.proofs.Common.{◌≡◌, drop}
use Rattle.asl_rules.specs.Tests.{Tests}
use Rattle.asl_types.specs.Suits.{Suits}
use Rattle.asl_tree.specs.Acts.{all_places}
use Rattle.asl_tree.specs.View.{operand_of}
use Rattle.asl_blocks.specs.private.Walks.{stores_fit}
use Rattle.asl_assignments.proofs.stores.check_parts.Given as goal

abbrev pub invariant-loop-place : goal.invariant-loop-place
invariant-loop-place l = (t : Tests) → Suits t →
    stores_fit t (all_places (drop l.place-index l.places)) l.rest (operand_of l.value) ≡ stores_fit t (all_places l.places) l.types (operand_of l.value)
