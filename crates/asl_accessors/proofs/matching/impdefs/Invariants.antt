use Rattle.std.proofs.Common.{◌≡◌, None, drop}
use Rattle.asl_rules.specs.declarations.Keys.{Key}
use Rattle.asl_rules.specs.declarations.Replacing.{is_impdef}
use Rattle.asl_accessors.specs.private.Parts.{all_seen, last_at, place_in}
use Rattle.asl_accessors.proofs.matching.impdefs.Given as goal

abbrev pub invariant-loop-place : goal.invariant-loop-place
invariant-loop-place l = (k : Key) →
    last_at is_impdef k l.place (place_in l.places k) (all_seen (drop l.place l.headers)) ≡ last_at is_impdef k 0 None (all_seen l.headers)
