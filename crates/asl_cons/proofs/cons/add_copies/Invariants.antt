use Rattle.std.proofs.Common.{◌≡◌, ◌++◌, take}
use Rattle.asl_cons.proofs.cons.add_copies.Given as goal

abbrev pub invariant-loop-p : goal.invariant-loop-p
invariant-loop-p l = l.made.items ≡ l.initial.made.items ++ take l.p-index l.ps
