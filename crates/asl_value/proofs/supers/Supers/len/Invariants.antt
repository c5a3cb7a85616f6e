use Rattle.std.proofs.Common.{◌≡◌, ◌+◌, ◌≤◌, min, drop, length}
use Rattle.asl_value.specs.private.Supers.{joined}
use Rattle.asl_value.proofs.supers.Supers.len.Given as goal

abbrev pub invariant-loop-tree : goal.invariant-loop-tree
invariant-loop-tree l = record {
  below : l.total ≤ 4294967295;
  rest : min (l.total + length (joined (drop l.tree-index l.tree-items))) 4294967295 ≡ min (length (joined l.tree-items)) 4294967295;
}
