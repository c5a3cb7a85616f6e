use Rattle.std.proofs.Common.{to_z-of_z}
use Rattle.asl_run.proofs.bits.of_width.Goals as goal

pub returns-in-Zeros : goal.returns-in-Zeros
returns-in-Zeros c = rw c.in-Zeros.is (simp (to_z-of_z, c.ranges.width) at c.zeros.ensures)

pub returns-in-Ones : goal.returns-in-Ones
returns-in-Ones c = rw c.in-Ones.is (simp (to_z-of_z, c.ranges.width) at c.ones.ensures)
