use Rattle.std.proofs.Common.{◌≡◌, [], drop}
use Rattle.asl_accessors.specs.private.Holes.{others_from}
use Rattle.asl_accessors.proofs.holes.write_others.Given as goal

abbrev pub invariant-loop-hole : goal.invariant-loop-hole
invariant-loop-hole l = others_from l.others (drop l.hole-index l.holes) l.placed.items ≡ others_from [] l.holes l.fn.placed.items
