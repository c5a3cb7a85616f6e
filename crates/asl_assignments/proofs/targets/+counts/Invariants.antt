use Rattle.std.proofs.Common.{◌≡◌, drop, map}
use Rattle.asl_types.specs.View.{parts_of}
use Rattle.asl_blocks.specs.private.Walks.{counts_in, counts_parts}
use Rattle.asl_assignments.proofs.targets.+counts.Given as goal

abbrev pub invariant-parts_count-loop-target : goal.invariant-parts_count-loop-target
invariant-parts_count-loop-target l = counts_parts (map counts_in (drop l.target-index l.targets)) (parts_of l.rest) ≡ counts_parts (map counts_in l.targets) (parts_of l.parts)
