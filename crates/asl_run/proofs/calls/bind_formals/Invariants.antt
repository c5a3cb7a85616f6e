use Rattle.std.proofs.Common.{◌-◌, length, map, take}
use Rattle.asl_value.specs.View.{value_of}
use Rattle.asl_run.specs.private.Calling.{BoundFormals}
use Rattle.asl_run.proofs.calls.bind_formals.Given as goal

-- those so far were bound
abbrev pub invariant-loop-i : goal.invariant-loop-i
invariant-loop-i l = BoundFormals (take l.i l.formals) (map value_of (take l.i l.args)) l.fn.run l.run

abbrev pub decreases-loop-i : goal.decreases-loop-i
decreases-loop-i l = length l.formals - l.i
