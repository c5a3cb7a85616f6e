use Rattle.std.proofs.Common.{◌≡◌, ◌-◌, length}
use Rattle.asl_accessors.specs.private.Holes.{filled}
use Rattle.asl_accessors.proofs.holes.fill_up.Given as goal

abbrev pub invariant-loop-others : goal.invariant-loop-others
invariant-loop-others l = filled l.count l.others ≡ filled l.count l.fn.others

abbrev pub decreases-loop-others : goal.decreases-loop-others
decreases-loop-others l = l.count - length l.others
