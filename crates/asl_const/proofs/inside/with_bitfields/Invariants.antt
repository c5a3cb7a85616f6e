use Rattle.std.proofs.Common.{◌≡◌, ◌≤◌, ◌++◌, drop, map}
use Rattle.std.specs.Prelude.{max}
use denote.Param.Weighed.{most}
use Rattle.asl_syn.specs.declared.tree.Bitfield.{size-Bitfield}
use Rattle.asl_rules.specs.types.Shaped.{exprs_in, itself}
use Rattle.asl_const.specs.private.Finds.{known_bitfield}
use Rattle.asl_const.specs.private.Gathered.{constants, deepest}
use Rattle.asl_const.proofs.inside.with_bitfields.Given as goal

abbrev pub invariant-loop-field : goal.invariant-loop-field
invariant-loop-field l = record {
  values : constants l.all ++ exprs_in itself (map known_bitfield (drop l.field-index l.fields)) ≡ constants l.fn.into ++ exprs_in itself (map known_bitfield l.fields);
  depth : max (deepest l.all) (most size-Bitfield (drop l.field-index l.fields)) ≤ max (deepest l.fn.into) (most size-Bitfield l.fields);
}
