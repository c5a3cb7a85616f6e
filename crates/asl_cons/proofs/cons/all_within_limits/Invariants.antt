use Rattle.std.proofs.Common.{drop}
use Rattle.asl_cons.specs.Constraint.{AllEnds}
use Rattle.asl_cons.proofs.cons.all_within_limits.Given as goal

abbrev pub invariant-loop-p : goal.invariant-loop-p
invariant-loop-p l = AllEnds (drop l.p-index l.ps) → AllEnds l.ps
