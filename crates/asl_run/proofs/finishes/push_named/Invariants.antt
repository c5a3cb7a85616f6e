use Rattle.std.proofs.Common.{◌≡◌, ◌+◌, ◌-◌, ◌≤◌, drop, length, map}
use Rattle.asl_syn.specs.declared.token.Span.{Span}
use Rattle.asl_tree.specs.private.Room.{parts_taken}
use Rattle.asl_value.specs.View.{value_of}
use Rattle.asl_branches.specs.Meets.{SameBut}
use Rattle.asl_branches.specs.View.{core_of, height_of}
use Rattle.asl_run.specs.private.Finishes.{parts_pushed}
use Rattle.asl_run.proofs.finishes.push_named.Given as goal

-- what is taken of the parts that are left is still to be pushed, and the frame grows by as many
abbrev pub invariant-loop-i : goal.invariant-loop-i
invariant-loop-i l = record {
  pushed : (span : Span) → parts_pushed span (drop l.i l.named) (map value_of (drop l.i l.parts)) (core_of l.run) ≡ parts_pushed span l.named (map value_of l.parts) (core_of l.fn.run);
  round : SameBut l.fn.run l.run;
  height : height_of l.run + parts_taken (drop l.i l.named) ≡ parts_taken l.named + height_of l.fn.run;
  no_less : height_of l.fn.run ≤ height_of l.run;
}

abbrev pub decreases-loop-i : goal.decreases-loop-i
decreases-loop-i l = length l.parts - l.i
