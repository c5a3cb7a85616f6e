use Rattle.std.proofs.Common.{List, Ok, sym, ap, ◌∙◌, subst}
use Rattle.asl_syn.specs.declared.tree.Decl.{Decl}
use Rattle.asl_rules.specs.private.Grown.{AreGrown}
use Rattle.asl_rules.specs.declarations.Programs.{entries, verdict}
use Rattle.asl_tree.specs.Sealed.{Sealed, IsSealed}
use Rattle.asl_check.specs.private.Verdicts.{entries_in}
use Rattle.asl_check.proofs.program.check_written.Goals as goal

pub make-requires : goal.make-requires
make-requires c = subst AreGrown (sym c.as_slice.ensures) c.requires

pub seal-requires : goal.seal-requires
seal-requires c =
    subst (λ (ds : List Decl). IsSealed ds c.args.entry (entries c.in_ok-funcs.field-0.main c.in_ok-funcs.field-0.entry16) c.in_ok-funcs.field-0.funcs c.in_ok-funcs.field-0.globals.items) c.as_slice.ensures c.in_ok-funcs.ensures.sealed

pub returns : goal.returns
returns c = λ t s. (
  ap (λ (x : Sealed). x.decls) c.seal.ensures,
  (
    ap (λ (x : Sealed). x.asked) c.seal.ensures,
    ap (λ (ds : List Decl). entries_in (verdict c.args.entry ds t)) (sym c.as_slice.ensures) ∙ c.in_ok-funcs.ensures.rule t s ∙ ap Ok (sym (ap (λ (x : Sealed). x.entries) c.seal.ensures)),
  ),
)
