use Rattle.std.proofs.Common.{sym, ap, ◌∙◌}
use Rattle.asl_names.specs.private.Known.{known}
use Rattle.asl_names.proofs.KnownLemmas.{known-named}
use Rattle.asl_names.proofs.names.Names.get.Goals as goal

pub returns : goal.returns
returns c = c.copied.ensures ∙ c.get.ensures.value ∙ sym (known-named c.self.inside.subprograms.entries c.args.name.now) ∙ ap (λ names. known names c.args.name.now) c.self.view_is
