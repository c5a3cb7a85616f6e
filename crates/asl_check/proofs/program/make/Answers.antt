use Rattle.std.proofs.Common.{Ok, sym, ap, ap₂, ◌∙◌, subst}
use Rattle.asl_rules.specs.declarations.Programs.{Entries, entries}
use Rattle.asl_tree.specs.Sealed.{IsSealed}
use Rattle.asl_decl.specs.Entered.{entries_of}
use Rattle.asl_check.specs.private.Verdicts.{entries_in}
use Rattle.asl_check.proofs.GlobalTurns.{sealed_by}
use Rattle.asl_check.proofs.program.make.Goals as goal

pub returns-clause-rule : goal.returns-clause-rule
returns-clause-rule c = λ t s. ap entries_in (c.in_ok-names.ensures t s) ∙ ap Ok (sym (ap₂ entries c.numbered.ensures c.numbered-2.ensures))

pub returns-clause-sealed : goal.returns-clause-sealed
returns-clause-sealed c =
    subst (λ (m : Entries). IsSealed c.args.decls.now c.args.entry m c.in_ok-names.field-0.funcs c.in_ok-globals.globals.items) (sym (ap₂ entries c.numbered.ensures c.numbered-2.ensures))
    (sealed_by c.args.decls.now c.args.entry (entries_of c.in_ok-names.field-0.entries) c.in_ok-names.field-0.funcs c.in_ok-globals.globals.items c.in_ok-names.field-0.subs c.in_ok-names.field-0.names
    c.requires c.in_ok-names.ensures c.in_ok-globals.ensures.cells c.in_ok-globals.ensures.typed)
