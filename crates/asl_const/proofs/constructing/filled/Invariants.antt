use Rattle.std.proofs.Common.{◌≡◌, [], drop, map}
use Rattle.asl_value.specs.View.{field_of, value_of}
use Rattle.asl_const.specs.private.Giving.{filled_after, given_names}
use Rattle.asl_const.proofs.constructing.filled.Given as goal

abbrev pub invariant-loop-field : goal.invariant-loop-field
invariant-loop-field l =
    filled_after l.given.span (map field_of l.into) (drop l.field-index l.fields) (given_names l.given.fields.now) (map value_of l.given.values.now)
    ≡ filled_after l.given.span [] l.fields (given_names l.given.fields.now) (map value_of l.given.values.now)
