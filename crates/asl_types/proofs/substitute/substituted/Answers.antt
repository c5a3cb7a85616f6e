use Rattle.asl_types.proofs.SubstituteLemmas.{given}
use Rattle.asl_types.proofs.substitute.substituted.Goals as goal

pub returns-in-Ok : goal.returns-in-Ok
returns-in-Ok c = given c.args.by.now c.args.width.now c.in-Ok.p c.in-Ok.ensures.gives
