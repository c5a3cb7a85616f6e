use Rattle.asl_value.proofs.Bits.{same_is}
use Rattle.asl_run.proofs.bits.are_same.Goals as goal

pub returns : goal.returns
returns c = same_is c.same.result c.args.a.now c.args.b.now c.same.ensures
