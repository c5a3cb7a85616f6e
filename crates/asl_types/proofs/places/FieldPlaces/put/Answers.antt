use Rattle.std.proofs.Common.{ap, ◌∙◌}
use Rattle.asl_types.specs.private.NamePlaces.{named, put}
use Rattle.asl_types.proofs.PlaceLemmas.{put_named}
use Rattle.asl_types.proofs.places.FieldPlaces.put.Goals as goal

pub returns : goal.returns
returns c =
    ap named c.in_ok-insert.ensures.entries
    ∙ put_named c.self.inside.places.entries c.args.name c.args.place
    ∙ ap (put c.args.name.items c.args.place) c.self.view_is
