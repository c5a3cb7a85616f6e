use Rattle.std.proofs.Common.{sym}
use Rattle.asl_value.proofs.Endings.{open_bits}
use Rattle.asl_value.proofs.text.bits_leave_open.Goals as goal

pub returns : goal.returns
returns c = sym (open_bits c.args.bits.now c.args.before)
