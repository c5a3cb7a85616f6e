use Rattle.std.proofs.Common.{sym, subst}
use Rattle.asl_cons.specs.Constraint.{IsConstraint}
use Rattle.asl_cons.proofs.KeptEnds.{moduli_hold}
use Rattle.asl_cons.proofs.cons.Cons.modulo.Goals as goal

pub invariant_of-result : goal.invariant_of-result
invariant_of-result c = subst IsConstraint (sym c.in_ok-parts.ensures) (moduli_hold c.deref.result.now)
