use Rattle.std.proofs.Common.{◌≡◌, ◌++◌, length, reverse}
use Rattle.asl_accessors.proofs.lists.reversed.Given as goal

abbrev pub invariant-loop-item : goal.invariant-loop-item
invariant-loop-item g l = l.found ++ reverse l.rest ≡ reverse l.fn.items

abbrev pub decreases-loop-item : goal.decreases-loop-item
decreases-loop-item g l = length l.rest
