use Rattle.std.proofs.Common.{ap, ◌∙◌}
use Rattle.std.specs.Prelude.{Some, if◌then◌else◌}
use Rattle.std.specs.Str.{bytes_eq}
use Rattle.asl_accessors.specs.private.Parts.{place_in}
use Rattle.asl_accessors.proofs.KeyPlaces.{put_place}
use Rattle.asl_accessors.proofs.matching.Places.put.Goals as goal

pub returns : goal.returns
returns c k =
    put_place c.self.inside.places.entries c.insert.new.self.entries c.args.key c.args.place k c.in_ok-insert.ensures.entries
    ∙ ap (λ ps. if bytes_eq c.args.key.now k then Some c.args.place else place_in ps k) c.self.view_is
