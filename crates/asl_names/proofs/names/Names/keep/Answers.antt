use Rattle.std.proofs.Common.{arith, ap, ◌∙◌}
use Rattle.std.proofs.lemmas.Grind.{common_steps}
use Rattle.asl_names.specs.private.Known.{with_name}
use Rattle.asl_names.proofs.KnownLemmas.{with_name-new}
use Rattle.asl_names.proofs.names.Names.keep.Goals as goal

pub returns-in_ok-insert-clause-kept : goal.returns-in_ok-insert-clause-kept
returns-in_ok-insert-clause-kept c = with_name-new c.self.inside.subprograms c.args.name c.args.is_subprogram c.insert.new.self.entries (grind (arith, common_steps)) c.in_ok-insert.ensures.entries
    ∙ ap (with_name c.args.name.now c.args.is_subprogram) c.self.view_is
