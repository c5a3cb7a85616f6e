use Rattle.std.proofs.Common.{◌≡◌}
use Rattle.asl_shape.proofs.Times.{times}
use Rattle.asl_shape.proofs.firsts.repeated.Given as goal

abbrev pub invariant-loop-at : goal.invariant-loop-at
invariant-loop-at l = l.copies ≡ times l._at l.value
