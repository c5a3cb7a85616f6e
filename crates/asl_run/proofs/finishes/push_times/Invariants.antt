use Rattle.std.proofs.Common.{◌≡◌, ◌+◌, ◌≤◌}
use Rattle.std.specs.Prelude.{replicate}
use Rattle.asl_rules.specs.private.TypedMeaning.{with_next}
use Rattle.asl_value.specs.View.{value_of}
use Rattle.asl_branches.specs.Meets.{SameBut}
use Rattle.asl_branches.specs.View.{core_of, height_of}
use Rattle.asl_run.proofs.finishes.push_times.Given as goal

-- the places that are left are still to be pushed, and the frame grows by as many
abbrev pub invariant-loop-left : goal.invariant-loop-left
invariant-loop-left l = record {
  pushed : with_next (replicate l.left (value_of l.value)) (core_of l.run) ≡ with_next (replicate l.count (value_of l.value)) (core_of l.fn.run);
  round : SameBut l.fn.run l.run;
  height : height_of l.run + l.left ≡ l.count + height_of l.fn.run;
  no_more : l.left ≤ l.count;
}

abbrev pub decreases-loop-left : goal.decreases-loop-left
decreases-loop-left l = l.left
