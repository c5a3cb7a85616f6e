use Rattle.std.proofs.Common.{◌≡◌, ◌≤◌}
use Rattle.asl_table.specs.private.Listed.{top_fixed}
use Rattle.asl_table.proofs.live.top_of.Given as goal

abbrev pub invariant-loop-top : goal.invariant-loop-top
invariant-loop-top l = (top_fixed l.below l.mask ≡ top_fixed l.top l.mask) × (l.top ≤ l.below)

abbrev pub decreases-loop-top : goal.decreases-loop-top
decreases-loop-top l = l.top
