use Rattle.std.proofs.Common.{ap, ◌∙◌}
use Rattle.std.specs.Map.{lookup}
use Rattle.std.specs.Str.{bytes_eq}
use Rattle.asl_rules.specs.declarations.Scopes.{Signature}
use Rattle.asl_subprograms.proofs.ChainLemmas.{one_linked}
use Rattle.asl_subprograms.proofs.subprograms.Subprograms.push.Goals as goal

pub invariant_of-self-in-Ok-insert : goal.invariant_of-self-in-Ok-insert
invariant_of-self-in-Ok-insert c =
    one_linked c.self.inside.signatures c.push-2.new.self c.self.inside.older c.push.new.self c.self.inside.newest.entries c.insert.new.self.entries c.args.signature c.in_ok-key.key c.copied-last.result c.len-number.result
    c.self.invariant
    (c.in_ok-key.ensures ∙ c.as_slice.ensures ∙ c.get.ensures ∙ ap (λ (g : Signature). g.name) c.signature.view_is)
    (c.copied-last.ensures ∙ c.get-2.ensures.value ∙ ap (λ x. lookup (λ j. bytes_eq x j.items) c.self.inside.newest.entries) c.as_slice-2.ensures.value)
    c.len-number.ensures
    c.in-Ok.ensures.ok
    c.in_ok-push.ensures.ok
    c.in-Ok-insert.ensures.entries
