use Rattle.std.proofs.Common.{◌≡◌, ◌+◌, ◌≤◌, ◌++◌, false, replicate, vec_len, vec_capacity}
use Rattle.asl_value.specs.declared.value.Value.TheVariants as value
use Rattle.asl_store.proofs.store.add_slots.Given as goal

-- the slots that are left are still to be added
abbrev pub invariant-loop-left : goal.invariant-loop-left
invariant-loop-left l = record {
  added : l.slots.items ++ replicate l.left (value.Bool false) ≡ l.fn.slots.items ++ replicate l.count (value.Bool false);
  room : vec_len l.slots + l.left ≤ vec_capacity l.slots;
}

abbrev pub decreases-loop-left : goal.decreases-loop-left
decreases-loop-left l = l.left
