use Rattle.std.proofs.Common.{arith, ap, ◌∙◌}
use Rattle.std.proofs.lemmas.Grind.{common_steps}
use Rattle.asl_names.specs.private.Firsts.{kept}
use Rattle.asl_names.proofs.FirstLemmas.{kept_new}
use Rattle.asl_names.proofs.firsts.Firsts.keep.Goals as goal

pub returns-in_ok-insert : goal.returns-in_ok-insert
returns-in_ok-insert c = kept_new c.self.inside.places c.args.name c.args.place c.insert.new.self.entries (grind (arith, common_steps)) c.in_ok-insert.ensures.entries
    ∙ ap (kept c.args.name.now c.args.place) c.self.view_is
