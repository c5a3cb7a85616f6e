use Rattle.std.proofs.Common.{to_z-of_z}
use Rattle.asl_run.proofs.bits.of_width_and_bits.Goals as goal

pub returns-in-ZeroExtend : goal.returns-in-ZeroExtend
returns-in-ZeroExtend c = rw c.in-ZeroExtend.is (simp (to_z-of_z, c.ranges.width) at c.extended.ensures)

pub returns-in-SignExtend : goal.returns-in-SignExtend
returns-in-SignExtend c = rw c.in-SignExtend.is (simp (to_z-of_z, c.ranges.width) at c.extended-in-SignExtend.ensures)
