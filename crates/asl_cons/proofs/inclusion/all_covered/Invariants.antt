use Rattle.std.proofs.Common.{drop}
use Rattle.std.specs.Prelude.{◌↔◌}
use Rattle.asl_cons.specs.Constraint.{AllCovered}
use Rattle.asl_cons.proofs.inclusion.all_covered.Given as goal

abbrev pub invariant-loop-p : goal.invariant-loop-p
invariant-loop-p l = AllCovered (drop l.p-index l.ps) l.qs ↔ AllCovered l.ps l.qs
