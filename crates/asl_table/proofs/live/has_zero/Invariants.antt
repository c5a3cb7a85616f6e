use Rattle.std.proofs.Common.{◌≡◌, drop}
use Rattle.asl_table.specs.private.Listed.{has_zero}
use Rattle.asl_table.proofs.live.has_zero.Given as goal

abbrev pub invariant-loop-l : goal.invariant-loop-l
invariant-loop-l l = has_zero (drop l.l-index l.live) ≡ has_zero l.live
