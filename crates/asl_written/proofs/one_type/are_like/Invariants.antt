use Rattle.std.proofs.Common.{◌≡◌, drop}
use Rattle.asl_written.specs.private.OneType.{are_like}
use Rattle.asl_written.proofs.one_type.are_like.Given as goal

abbrev pub invariant-loop-other : goal.invariant-loop-other
invariant-loop-other l = are_like l.first (drop l.other-index l.others) ≡ are_like l.first l.others
