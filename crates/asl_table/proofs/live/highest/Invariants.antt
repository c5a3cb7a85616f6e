use Rattle.std.proofs.Common.{◌≡◌, drop}
use Rattle.std.specs.Prelude.{max}
use Rattle.asl_table.specs.private.Listed.{highest}
use Rattle.asl_table.proofs.live.highest.Given as goal

abbrev pub invariant-loop-l : goal.invariant-loop-l
invariant-loop-l l = max l.most (highest (drop l.l-index l.live)) ≡ highest l.live
