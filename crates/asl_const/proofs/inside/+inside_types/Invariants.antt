use Rattle.std.proofs.Common.{◌≡◌, ◌≤◌, ◌++◌, drop, map}
use Rattle.std.specs.Prelude.{max}
use denote.Param.Weighed.{most}
use Rattle.asl_syn.specs.declared.tree.TypeExpr.{size-TypeExpr}
use Rattle.asl_rules.specs.types.Shaped.{exprs_in, itself}
use Rattle.asl_const.specs.private.Finds.{known_type}
use Rattle.asl_const.specs.private.Gathered.{constants, deepest}
use Rattle.asl_const.proofs.inside.+inside_types.Given as goal

abbrev pub invariant-with_types-loop-ty : goal.invariant-with_types-loop-ty
invariant-with_types-loop-ty l = record {
  values : constants l.all ++ exprs_in itself (map known_type (drop l.ty-index l.types)) ≡ constants l.fn.into ++ exprs_in itself (map known_type l.types);
  depth : max (deepest l.all) (most size-TypeExpr (drop l.ty-index l.types)) ≤ max (deepest l.fn.into) (most size-TypeExpr l.types);
}
