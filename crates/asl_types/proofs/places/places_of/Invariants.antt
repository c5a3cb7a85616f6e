use Rattle.std.proofs.Common.{◌≡◌, ◌≤◌, length, drop}
use Rattle.asl_types.specs.private.FieldPlaces.{places_from}
use Rattle.asl_types.proofs.places.places_of.Given as goal

abbrev pub invariant-loop-left : goal.invariant-loop-left
invariant-loop-left l = (l.left ≤ length l.fields) × (l.places ≡ places_from l.left (drop l.left l.fields))

abbrev pub decreases-loop-left : goal.decreases-loop-left
decreases-loop-left l = l.left
