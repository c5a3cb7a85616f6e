use Rattle.std.proofs.Common.{◌≡◌, false, drop}
use Rattle.asl_rules.specs.declarations.Keys.{Key}
use Rattle.asl_rules.specs.declarations.Replacing.{is_implementation}
use Rattle.asl_accessors.specs.private.Parts.{all_seen, first_at, has_place, headers_judged, or_place, place_in}
use Rattle.asl_accessors.proofs.matching.implementations.Given as goal

abbrev pub invariant-loop-place : goal.invariant-loop-place
invariant-loop-place l = record {
  kept : (k : Key) →
      or_place (place_in l.places k) (first_at is_implementation k l.place (all_seen (drop l.place l.headers)))
      ≡ first_at is_implementation k 0 (all_seen l.headers);
  judged :
      headers_judged (has_place l.impdefs) (has_place l.places) (all_seen (drop l.place l.headers))
      ≡ headers_judged (has_place l.impdefs) (λ _. false) (all_seen l.headers);
}
