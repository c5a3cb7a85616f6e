use Rattle.std.proofs.Common.{◌≡◌, length, drop, map}
use Rattle.asl_value.specs.View.{value_of}
use Rattle.asl_run.specs.private.Storing.{parts_in, parts_behind}
use Rattle.asl_run.proofs.assignments.parts_of.Given as goal

-- the parts that are left still come behind those that were found
abbrev pub invariant-loop-target : goal.invariant-loop-target
invariant-loop-target l = record {
  as_many : length l.parts ≡ l.target-index;
  left : parts_behind (map value_of l.parts) (drop l.target-index l.targets) (value_of l.value) ≡ parts_in l.targets (value_of l.value);
}
