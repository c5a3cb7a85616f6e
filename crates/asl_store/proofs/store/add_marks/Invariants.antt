use Rattle.std.proofs.Common.{◌≡◌, ◌+◌, ◌≤◌, ◌++◌, false, replicate, vec_len, vec_capacity}
use Rattle.asl_store.proofs.store.add_marks.Given as goal

-- the marks that are left are still to be added
abbrev pub invariant-loop-left : goal.invariant-loop-left
invariant-loop-left l = record {
  added : l.marks.items ++ replicate l.left false ≡ l.fn.marks.items ++ replicate l.count false;
  room : vec_len l.marks + l.left ≤ vec_capacity l.marks;
}

abbrev pub decreases-loop-left : goal.decreases-loop-left
decreases-loop-left l = l.left
