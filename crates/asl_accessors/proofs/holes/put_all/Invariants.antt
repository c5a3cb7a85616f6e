use Rattle.std.proofs.Common.{◌≡◌, length}
use Rattle.asl_accessors.specs.Judged.{or_defaults}
use Rattle.asl_accessors.proofs.holes.put_all.Given as goal

-- the others that are left take the places of what stands there now
abbrev pub invariant-loop-other : goal.invariant-loop-other
invariant-loop-other l = or_defaults l.decls l.rest ≡ or_defaults l.fn.decls l.fn.others

abbrev pub decreases-loop-other : goal.decreases-loop-other
decreases-loop-other l = length l.rest
