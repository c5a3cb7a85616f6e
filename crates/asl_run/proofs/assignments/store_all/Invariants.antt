use Rattle.std.proofs.Common.{◌-◌, drop, length}
use Rattle.asl_branches.specs.Meets.{Underway, at}
use Rattle.asl_run.proofs.Storing.{stored_from}
use Rattle.asl_run.proofs.assignments.store_all.Given as goal

-- the places that are left do what all do
abbrev pub invariant-loop-i : goal.invariant-loop-i
invariant-loop-i g l = Underway (g.N.Nodes.setting l.here) (stored_from l.holds_bits (drop l.i l.targets) (drop l.i l.parts))
    (at g.K.Sink l.run l.sink) (stored_from l.holds_bits l.targets l.parts) (at g.K.Sink l.fn.run l.fn.sink)

abbrev pub decreases-loop-i : goal.decreases-loop-i
decreases-loop-i g l = length l.targets - l.i
