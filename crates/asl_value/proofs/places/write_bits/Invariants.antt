use Rattle.asl_value.proofs.InPlaces.{Put}
use Rattle.asl_value.proofs.places.write_bits.Given as goal

-- the places so far have the others
abbrev pub invariant-loop-place : goal.invariant-loop-place
invariant-loop-place l = Put l.bits l.part l.places l.place-index l.left l.made
