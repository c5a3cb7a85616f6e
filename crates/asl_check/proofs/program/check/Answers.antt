use Rattle.std.proofs.Common.{List, sym, subst}
use Rattle.asl_syn.specs.declared.tree.Decl.{Decl}
use Rattle.asl_rules.specs.private.Grown.{AreGrown}
use Rattle.asl_check.specs.private.Verdicts.{IsVerdict}
use Rattle.asl_check.proofs.ReadVerdicts.{final_grown, handed_on, judged_both, judged_once}
use Rattle.asl_check.proofs.program.check.Goals as goal

pub returns-in_err-parted : goal.returns-in_err-parted
returns-in_err-parted c =
    λ t s. handed_on t c.args.entry c.args.program.decls c.from_residual.result c.in_err-parted.field-0.0 c.in_err-parted.ensures.matched c.from_residual.ensures.1

pub check_both-requires : goal.check_both-requires
check_both-requires c = final_grown c.args.program.decls c.in_ok-parted.parted c.in_ok-parted.ensures.replaced c.requires

pub check_written-requires : goal.check_written-requires
check_written-requires c =
    subst AreGrown (sym c.in_ok-program.ensures) (final_grown c.args.program.decls c.in_ok-parted.parted c.in_ok-parted.ensures.replaced c.requires)

pub returns-then-replaces : goal.returns-then-replaces
returns-then-replaces c =
    λ t s. judged_both t c.args.entry c.args.program.decls c.in_ok-parted.parted c.check_both.result
    c.in_ok-parted.ensures.matched c.in_ok-parted.ensures.defaults c.in_ok-parted.ensures.replaced (c.check_both.ensures t s)

pub returns-in_ok-program : goal.returns-in_ok-program
returns-in_ok-program c =
    λ t s. judged_once t c.args.entry c.args.program.decls c.in_ok-parted.parted c.check_written.result
    c.in_ok-parted.ensures.matched c.in_ok-parted.ensures.defaults c.in_ok-parted.ensures.replaced (c.replaces.ensures c.if-replaces.false)
    (subst (λ (ds : List Decl). IsVerdict t c.args.entry ds c.check_written.result) c.in_ok-program.ensures (c.check_written.ensures t s))
