use Rattle.std.proofs.Common.{◌≡◌, ◌++◌, drop}
use Rattle.asl_machine.specs.Storage.{vars_from}
use Rattle.asl_machine.proofs.memory.vars.Given as goal

-- with the variables behind these
abbrev pub invariant-loop-g : goal.invariant-loop-g
invariant-loop-g l = l.vars.items ++ vars_from (drop l.g-index l.globals) ≡ vars_from l.globals
