use Rattle.std.proofs.Common.{◌≡◌, drop}
use Rattle.asl_cons.specs.Arithmetic.{all_pairs}
use Rattle.asl_cons.specs.Operator.{part_by, onto}
use Rattle.asl_cons.proofs.arithmetic.by_pairs.Given as goal

abbrev pub invariant-loop-p : goal.invariant-loop-p
invariant-loop-p l = onto l.made.items (all_pairs (part_by l.op) (drop l.p-index l.ps) l.qs) ≡ all_pairs (part_by l.op) l.ps l.qs
