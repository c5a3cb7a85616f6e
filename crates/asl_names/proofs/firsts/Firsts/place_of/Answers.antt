use Rattle.std.proofs.Common.{sym, ap, ◌∙◌}
use Rattle.asl_names.specs.private.Firsts.{first_place}
use Rattle.asl_names.proofs.FirstLemmas.{first_named}
use Rattle.asl_names.proofs.firsts.Firsts.place_of.Goals as goal

pub returns : goal.returns
returns c = c.copied.ensures ∙ c.get.ensures.value ∙ sym (first_named c.self.inside.places.entries c.args.name.now) ∙ ap (λ names. first_place c.args.name.now names) c.self.view_is
