use Rattle.std.proofs.Common.{◌≡◌, ◌++◌, drop}
use Rattle.asl_copy.proofs.decls.copy_decls.Given as goal

abbrev pub invariant-loop-item : goal.invariant-loop-item
invariant-loop-item l = l.copies ++ drop l.item-index l.items ≡ l.items
