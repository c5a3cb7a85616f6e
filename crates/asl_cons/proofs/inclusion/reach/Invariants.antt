use Rattle.std.proofs.Common.{drop, ℤ}
use Rattle.asl_cons.specs.Constraint.{InFixed}
use Rattle.asl_cons.proofs.inclusion.reach.Given as goal

abbrev pub invariant-loop-q : goal.invariant-loop-q
invariant-loop-q l = (InFixed l.i l.qs → InFixed l.i (drop l.q-index l.qs)) × ((j : ℤ) → InFixed j (drop l.q-index l.qs) → InFixed j l.qs)
