-- What variables begin with.
use Rattle.std.specs.Prelude.{ℕ, List}
use Rattle.asl_syn.specs.declared.token.Span.{Span}
use Rattle.asl_rules.specs.types.Closed.{closed}
use Rattle.asl_rules.specs.types.Shapes.{TypeShape}
use Rattle.asl_rules.specs.values.Values.{Value}
use Rattle.asl_rules.specs.types.Written.{filled, first_value}
use Rattle.asl_rules.specs.runs.Plans.{Pure, Good}
use Rattle.asl_rules.specs.runs.Pures.{◌>>=◌, found_type}
use Rattle.asl_types.specs.declared.ty.FieldType.{FieldType}
use Rattle.asl_types.specs.declared.ty.FieldType.TheVariants as f
use Rattle.asl_value.specs.View.{Of}

-- a field with its first value
abbrev pub first_of_field : ℕ → Span → FieldType → Pure Of
first_of_field limit span (f.Field g T) = first_value limit span (closed T) >>= λ x. Good (record { name = g; value = x })

-- of a written type
abbrev pub first_written : ℕ → Span → Span → TypeShape → List Value → Pure Value
first_written limit span whole T zs = found_type span (filled limit whole T zs) >>= λ s. s.first
