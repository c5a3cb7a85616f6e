use Rattle.std.proofs.Common.{◌≡◌, take}
use Rattle.asl_machine.specs.Storage.{values_in}
use Rattle.asl_machine.proofs.memory.values.Given as goal

-- those so far stand there
abbrev pub invariant-loop-g : goal.invariant-loop-g
invariant-loop-g l = l.values.items ≡ values_in (take l.g-index l.globals)
