use Rattle.std.proofs.Common.{sym, ap, ◌∙◌}
use Rattle.asl_accessors.specs.private.Parts.{place_in}
use Rattle.asl_accessors.proofs.KeyPlaces.{found_placed}
use Rattle.asl_accessors.proofs.matching.Places.get.Goals as goal

pub returns : goal.returns
returns c =
    c.copied.ensures
    ∙ c.get.ensures.value
    ∙ sym (found_placed c.self.inside.places.entries c.args.key.now)
    ∙ ap (λ ps. place_in ps c.args.key.now) c.self.view_is
