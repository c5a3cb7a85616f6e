use Rattle.std.proofs.Common.{◌≡◌, ◌++◌, drop}
use Rattle.asl_copy.proofs.targets.+target_copies.Given as goal

abbrev pub invariant-copy_targets-loop-item : goal.invariant-copy_targets-loop-item
invariant-copy_targets-loop-item l = l.copies ++ drop l.item-index l.items ≡ l.items
