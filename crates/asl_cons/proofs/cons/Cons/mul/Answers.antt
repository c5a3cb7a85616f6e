use Rattle.std.proofs.Common.{◌≡◌, sym, subst}
use Rattle.asl_cons.specs.declared.arithmetic.Operator.TheVariants.{Mul}
use Rattle.asl_cons.specs.Constraint.{IsConstraint}
use Rattle.asl_cons.proofs.KeptEnds.{pairs_hold}
use Rattle.asl_cons.proofs.cons.Cons.mul.Goals as goal

pub invariant_of-result : goal.invariant_of-result
invariant_of-result c =
    let e : c.deref.result.now ≡ c.self.inside.parts.items = cc in
    let f : c.deref-2.result.now ≡ c.other.inside.parts.items = cc in
    subst IsConstraint (sym c.in_ok-parts.ensures) (pairs_hold Mul c.deref.result.now c.deref-2.result.now (subst IsConstraint (sym e) c.self.invariant) (subst IsConstraint (sym f) c.other.invariant))
