use Rattle.asl_bits.specs.declared.TheConstants.{WIDTH_LIMIT}
use Rattle.asl_value.proofs.InPlaces.{Within}
use Rattle.asl_value.proofs.places.are_within.Given as goal

-- so many places are left
abbrev pub invariant-loop-place : goal.invariant-loop-place
invariant-loop-place l = Within WIDTH_LIMIT l.places l.place-index l.left
