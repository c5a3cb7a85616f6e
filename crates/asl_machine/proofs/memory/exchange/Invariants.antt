use Rattle.std.proofs.Common.{◌≡◌, ◌-◌, ◌++◌, take, drop, length}
use Rattle.asl_machine.specs.Storage.{given, taken}
use Rattle.asl_machine.proofs.memory.exchange.Given as goal

-- those in front were exchanged, and the others come behind
abbrev pub invariant-loop-i : goal.invariant-loop-i
invariant-loop-i l = record {
  values : take l.i l.values.items ++ given (drop l.i l.marks) (drop l.i l.values.items) (drop l.next l.vars.items) ≡ given l.marks l.fn.values.items l.fn.vars.items;
  vars : take l.next l.vars.items ++ taken (drop l.i l.marks) (drop l.i l.values.items) (drop l.next l.vars.items) ≡ taken l.marks l.fn.values.items l.fn.vars.items;
}

abbrev pub decreases-loop-i : goal.decreases-loop-i
decreases-loop-i l = length l.marks - l.i
