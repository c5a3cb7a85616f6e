use Rattle.asl_value.proofs.InPlaces.{Within}
use Rattle.asl_value.proofs.places.have_width.Given as goal

-- so many places are left
abbrev pub invariant-loop-place : goal.invariant-loop-place
invariant-loop-place l = Within l.count l.places l.place-index l.left
