use Rattle.std.proofs.Common.{◌≡◌, ◌≤◌, ◌++◌, drop, map}
use Rattle.std.specs.Prelude.{max}
use denote.Param.Weighed.{most}
use Rattle.asl_syn.specs.declared.tree.Slice.{size-Slice}
use Rattle.asl_rules.specs.types.Shaped.{exprs_in, itself}
use Rattle.asl_const.specs.private.Finds.{known_slice}
use Rattle.asl_const.specs.private.Gathered.{constants, deepest}
use Rattle.asl_const.proofs.inside.of_slices.Given as goal

abbrev pub invariant-loop-slice : goal.invariant-loop-slice
invariant-loop-slice l = record {
  values : constants l.all ++ exprs_in itself (map known_slice (drop l.slice-index l.slices)) ≡ exprs_in itself (map known_slice l.slices);
  depth : max (deepest l.all) (most size-Slice (drop l.slice-index l.slices)) ≤ most size-Slice l.slices;
}
