use Rattle.std.proofs.Common.{◌≡◌, ◌≤◌, ◌++◌, drop, map}
use Rattle.std.specs.Prelude.{max}
use denote.Param.Weighed.{most}
use Rattle.asl_syn.specs.declared.tree.ConstraintPart.{size-ConstraintPart}
use Rattle.asl_rules.specs.types.Shaped.{exprs_in, itself}
use Rattle.asl_const.specs.private.Finds.{known_part}
use Rattle.asl_const.specs.private.Gathered.{constants, deepest}
use Rattle.asl_const.proofs.inside.with_parts.Given as goal

abbrev pub invariant-loop-part : goal.invariant-loop-part
invariant-loop-part l = record {
  values : constants l.all ++ exprs_in itself (map known_part (drop l.part-index l.parts)) ≡ constants l.fn.into ++ exprs_in itself (map known_part l.parts);
  depth : max (deepest l.all) (most size-ConstraintPart (drop l.part-index l.parts)) ≤ max (deepest l.fn.into) (most size-ConstraintPart l.parts);
}
