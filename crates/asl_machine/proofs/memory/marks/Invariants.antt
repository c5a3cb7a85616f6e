use Rattle.std.proofs.Common.{◌≡◌, take}
use Rattle.asl_machine.specs.Storage.{marks_of}
use Rattle.asl_machine.proofs.memory.marks.Given as goal

-- those so far stand there
abbrev pub invariant-loop-g : goal.invariant-loop-g
invariant-loop-g l = l.marks.items ≡ marks_of (take l.g-index l.globals)
