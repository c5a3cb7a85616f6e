use Rattle.std.proofs.Common.{drop}
use Rattle.std.specs.Prelude.{◌↔◌}
use Rattle.asl_cons.specs.Constraint.{Held}
use Rattle.asl_cons.proofs.inclusion.held.Given as goal

abbrev pub invariant-loop-q : goal.invariant-loop-q
invariant-loop-q l = Held l.p (drop l.q-index l.qs) ↔ Held l.p l.qs
