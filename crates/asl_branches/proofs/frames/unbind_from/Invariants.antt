use Rattle.std.proofs.Common.{◌≡◌, ◌≤◌, length, take}
use Rattle.asl_branches.specs.private.Packing.{IsFrame, bound_in}
use Rattle.asl_branches.proofs.frames.unbind_from.Given as goal

-- the slots from this one on are free
abbrev pub invariant-loop-at : goal.invariant-loop-at
invariant-loop-at l = record {
  above : l.height ≤ l.at;
  filled : IsFrame l.at l.store.newest;
  values : bound_in l.store.newest ≡ take l.at (bound_in l.fn.store.newest);
  slots : length l.store.newest ≡ length l.fn.store.newest;
  globals : l.store.globals ≡ l.fn.store.globals;
  older : l.store.older ≡ l.fn.store.older;
}

abbrev pub decreases-loop-at : goal.decreases-loop-at
decreases-loop-at l = l.at
