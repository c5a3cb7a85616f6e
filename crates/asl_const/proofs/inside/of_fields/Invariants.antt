use Rattle.std.proofs.Common.{◌≡◌, ◌≤◌, ◌++◌, drop, map}
use Rattle.std.specs.Prelude.{max}
use denote.Param.Weighed.{most}
use Rattle.asl_syn.specs.declared.tree.FieldValue.{size-FieldValue}
use Rattle.asl_rules.specs.types.Shaped.{exprs_in, itself}
use Rattle.asl_const.specs.private.Finds.{known_given}
use Rattle.asl_const.specs.private.Gathered.{constants, deepest}
use Rattle.asl_const.proofs.inside.of_fields.Given as goal

abbrev pub invariant-loop-field : goal.invariant-loop-field
invariant-loop-field l = record {
  values : constants l.all ++ exprs_in itself (map known_given (drop l.field-index l.fields)) ≡ exprs_in itself (map known_given l.fields);
  depth : max (deepest l.all) (most size-FieldValue (drop l.field-index l.fields)) ≤ most size-FieldValue l.fields;
}
