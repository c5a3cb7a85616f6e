use Rattle.std.proofs.Common.{◌≡◌, take}
use Rattle.asl_run.proofs.calls.listed.Given as goal

abbrev pub invariant-loop-x : goal.invariant-loop-x
invariant-loop-x l = l.list.items ≡ take l.x-index l.values
