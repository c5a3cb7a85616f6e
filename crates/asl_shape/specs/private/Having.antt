-- Whether a field is of a name and a type.
use Rattle.std.specs.Prelude.{Bool, ◌&&◌}
use Rattle.std.specs.Str.{bytes_eq}
use Rattle.asl_rules.specs.types.Closed.{closed}
use Rattle.asl_rules.specs.values.Values.{has}
use Rattle.asl_types.specs.declared.ty.FieldType.{FieldType}
use Rattle.asl_types.specs.declared.ty.FieldType.TheVariants as f
use Rattle.asl_value.specs.View.{Of}

abbrev pub has_field : Of → FieldType → Bool
has_field x (f.Field g T) = bytes_eq x.name g && has x.value (closed T)
