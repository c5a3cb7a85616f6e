use Rattle.asl_value.proofs.InPlaces.{Read, in_bits}
use Rattle.asl_value.proofs.places.read_bits.Given as goal

-- those that were read stand on top of those left
abbrev pub invariant-loop-place : goal.invariant-loop-place
invariant-loop-place l = Read (in_bits l.bits) l.places l.place-index l.made
