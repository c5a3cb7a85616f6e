use Rattle.std.proofs.Common.{◌≡◌, ◌<◌, true, false, Option, length, arith}
use Rattle.std.specs.Prelude.{option_map}
use Rattle.asl_rules.specs.declarations.Keys.{Key}
use Rattle.asl_rules.specs.declarations.Replacing.{Header, has_header, is_implementation}
use Rattle.asl_accessors.specs.private.Parts.{has_place, place_in, seen}
use Rattle.asl_accessors.proofs.KeyPlaces.{first_step, judged_step, new_key}
use Rattle.asl_accessors.proofs.matching.implementations.Goals as goal

pub loop-place-preserved : goal.loop-place-preserved
loop-place-preserved c =
    let within : c.loop-place.place < length c.args.headers.now = omega arith in
    let header : Option Header = option_map seen c.index-headers-place.result in
    let new : (k : Key) → has_header is_implementation k header ≡ true → has_place c.loop-place.places k ≡ false =
    λ k. new_key (has_place c.args.impdefs.now) (has_place c.loop-place.places) header k c.in_ok-keep_implementation.ensures.judged in record {
      kept = λ k. first_step c.args.headers.now c.loop-place.place c.index-headers-place.result within c.index-headers-place.is
          k (place_in c.loop-place.places k) (place_in c.keep_implementation.new.places k) _ (c.in_ok-keep_implementation.ensures.kept k)
          (new k) (c.loop-place.invariant.kept k);
      judged = judged_step c.args.headers.now c.loop-place.place c.index-headers-place.result within c.index-headers-place.is
          (has_place c.args.impdefs.now) c.loop-place.places c.keep_implementation.new.places _ c.in_ok-keep_implementation.ensures.kept
          c.in_ok-keep_implementation.ensures.judged c.loop-place.invariant.judged;
    }
