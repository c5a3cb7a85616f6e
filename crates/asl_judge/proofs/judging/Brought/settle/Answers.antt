use Rattle.std.proofs.Common.{◌≡◌, sym, subst}
use Rattle.asl_judge.specs.private.Brought.{brought_of}
use Rattle.asl_judge.specs.private.Settling.{HaveStandIns, all_settled}
use Rattle.asl_judge.proofs.Settling.{settled_subprogram}
use Rattle.asl_judge.proofs.judging.Brought.settle.Goals as goal

pub returns-in-Subprogram : goal.returns-in-Subprogram
returns-in-Subprogram c =
    let have = subst (λ b. HaveStandIns (brought_of b) c.args.names.now) c.in-Subprogram.is c.requires in
    subst (λ b. c.args.names.now ≡ all_settled (brought_of b) c.args.names.now) (sym c.in-Subprogram.is)
    (sym (settled_subprogram c.in-Subprogram.field-0.now c.args.names.now have.0))
