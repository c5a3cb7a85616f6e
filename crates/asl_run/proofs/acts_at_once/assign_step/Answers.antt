use Rattle.std.proofs.Common.{refl, sym, ◌∙◌}
use Rattle.asl_run.proofs.Stated.{slice_is}
use Rattle.asl_run.proofs.acts_at_once.assign_step.Goals as goal

pub returns-then-len-eq1-clause-meets : goal.returns-then-len-eq1-clause-meets
returns-then-len-eq1-clause-meets c = λ fs holds at.
    rw (slice_is c.args.step.now c.in-Slices.field-0 c.in-Slices.shapes c.as_slice.result.now c.in-Slices.es
    c.as_slice-then-len-eq1.result.now _ c.in-Slices.is c.as_slice.ensures c.as_slice-then-len-eq1.ensures
    (sym c.len.ensures ∙ c.if-len-eq1.true) refl) (c.assign_slice.ensures.meets fs holds at c.in-Slices.field-0)
