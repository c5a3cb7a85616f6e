use Rattle.std.proofs.Common.{◌≡◌, ◌++◌, drop}
use Rattle.asl_accessors.specs.private.Parts.{all_seen, headers_placed, place_in}
use Rattle.asl_accessors.proofs.matching.parts_of.Given as goal

abbrev pub invariant-loop-place : goal.invariant-loop-place
invariant-loop-place l =
    l.parts.items ++ headers_placed (place_in l.implementations) (place_in l.impdefs) l.place (all_seen (drop l.place l.headers))
    ≡ headers_placed (place_in l.implementations) (place_in l.impdefs) 0 (all_seen l.headers)
