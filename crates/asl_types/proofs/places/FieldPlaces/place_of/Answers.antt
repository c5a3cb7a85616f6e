use Rattle.std.proofs.Common.{sym, ap, ◌∙◌}
use Rattle.asl_types.specs.private.NamePlaces.{place_of}
use Rattle.asl_types.proofs.PlaceLemmas.{place_named}
use Rattle.asl_types.proofs.places.FieldPlaces.place_of.Goals as goal

pub returns : goal.returns
returns c = c.copied.ensures ∙ c.get.ensures.value ∙ sym (place_named c.args.name.now c.self.inside.places.entries) ∙ ap (place_of c.args.name.now) c.self.view_is
