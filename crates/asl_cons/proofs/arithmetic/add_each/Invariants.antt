use Rattle.std.proofs.Common.{◌≡◌, drop}
use Rattle.asl_cons.specs.Arithmetic.{with_each}
use Rattle.asl_cons.specs.Operator.{part_by, onto}
use Rattle.asl_cons.proofs.arithmetic.add_each.Given as goal

abbrev pub invariant-loop-q : goal.invariant-loop-q
invariant-loop-q l = onto l.made.items (with_each (part_by l.op) l.p (drop l.q-index l.qs)) ≡ onto l.initial.made.items (with_each (part_by l.op) l.p l.qs)
