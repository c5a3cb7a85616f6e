-- Bits that are put in places, where they fill them.
use Rattle.std.specs.Prelude.{if◌then◌else◌, Bool, List, length}
use Rattle.asl_syn.specs.declared.token.Span.{Span}
use Rattle.asl_rules.specs.types.Types.{View}
use Rattle.asl_rules.specs.values.Values.{Value, bits_with}
use Rattle.asl_rules.specs.values.Vectors.{Places, write_bits, fill}
use Rattle.asl_rules.specs.runs.Plans.{Stuck, WrongKind, Pure, Good, Bad}

abbrev pub filled : Span → List Places → List Bool → List Bool → View → Pure Value
filled span ps r bs v = if fill (length r) ps (length bs) then Good (bits_with (write_bits ps r bs) v) else Bad (Stuck WrongKind span)
