use Rattle.std.proofs.Common.{◌≡◌, ◌≤◌, ◌++◌, drop, map}
use Rattle.std.specs.Prelude.{max}
use denote.Param.Weighed.{most}
use Rattle.asl_syn.specs.declared.tree.Pattern.{size-Pattern}
use Rattle.asl_rules.specs.types.Shaped.{exprs_in, itself}
use Rattle.asl_const.specs.private.Finds.{known_pattern}
use Rattle.asl_const.specs.private.Gathered.{constants, deepest}
use Rattle.asl_const.proofs.inside.+inside_patterns.Given as goal

abbrev pub invariant-with_patterns-loop-pattern : goal.invariant-with_patterns-loop-pattern
invariant-with_patterns-loop-pattern l = record {
  values : constants l.all ++ exprs_in itself (map known_pattern (drop l.pattern-index l.patterns)) ≡ constants l.fn.into ++ exprs_in itself (map known_pattern l.patterns);
  depth : max (deepest l.all) (most size-Pattern (drop l.pattern-index l.patterns)) ≤ max (deepest l.fn.into) (most size-Pattern l.patterns);
}
