use Rattle.std.proofs.Common.{◌≡◌, ◌≤◌, ◌++◌, drop, map}
use Rattle.std.specs.Prelude.{max}
use denote.Param.Weighed.{most}
use Rattle.asl_syn.specs.declared.tree.Expr.{size-Expr}
use Rattle.asl_bits.specs.declared.TheConstants.{WIDTH_LIMIT}
use Rattle.asl_rules.specs.declarations.Constants.{constant}
use Rattle.asl_const.specs.private.Gathered.{constants, deepest}
use Rattle.asl_const.proofs.inside.of_list.Given as goal

abbrev pub invariant-loop-e : goal.invariant-loop-e
invariant-loop-e l = record {
  values : constants l.all ++ map (constant WIDTH_LIMIT) (drop l.e-index l.es) ≡ map (constant WIDTH_LIMIT) l.es;
  depth : max (deepest l.all) (most size-Expr (drop l.e-index l.es)) ≤ most size-Expr l.es;
}
