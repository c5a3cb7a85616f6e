use Rattle.std.proofs.Common.{ℤ, ◌≤ℤ◌, ◌<ℤ◌, ◌-ℤ◌, unsigned_abs}
use Rattle.asl_cons.specs.Constraint.{InFixed}
use Rattle.asl_cons.proofs.inclusion.covers.Given as goal

abbrev pub invariant-loop-i : goal.invariant-loop-i
invariant-loop-i l = (l.l ≤ℤ l.i) × ((j : ℤ) → l.l ≤ℤ j → j <ℤ l.i → InFixed j l.qs)

abbrev pub decreases-loop-i : goal.decreases-loop-i
decreases-loop-i l = unsigned_abs (l.h -ℤ l.i)
