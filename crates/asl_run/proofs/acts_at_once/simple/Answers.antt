use Rattle.asl_run.proofs.Stated.{assign_is}
use Rattle.asl_run.proofs.acts_at_once.simple.Goals as goal

pub returns-in-Assign-clause-meets : goal.returns-in-Assign-clause-meets
returns-in-Assign-clause-meets c = λ fs.
    rw (
      c.normal.ensures,
      assign_is c.args.s.now c.in-Assign.field-0 c.in-Assign.targets c.as_slice.result.now c.in-Assign.e c.in-Assign.is
          c.as_slice.ensures,
    ) (c.assign_one.ensures.meets fs)
