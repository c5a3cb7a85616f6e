-- Where bits occur, outside the fields of records and exceptions: in a type and in a value.
use Rattle.std.specs.Prelude.{Bool, true, false, ◌||◌}
use Rattle.asl_rules.specs.types.Types.{Ty, Parts, integer_of, boolean, bits_of, enumeration_of, record_of, exception_of, tuple_of, array_of, named, no_part, part}
use Rattle.asl_rules.specs.values.Values.{Value, Values, int, bool, bits_with, label, record_with, exception_with, tuple_with, array_with, no_value, value}

-- bits occur in a type
abbrev mutual
  pub holds_bits : Ty → Bool
  holds_bits (integer_of ps) = false
  holds_bits boolean = false
  holds_bits (bits_of w view) = true
  holds_bits (enumeration_of name labels) = false
  holds_bits (record_of name fs) = false
  holds_bits (exception_of name fs) = false
  holds_bits (tuple_of ts) = parts_hold_bits ts
  holds_bits (array_of n T) = holds_bits T
  holds_bits (named name supers T) = holds_bits T

  pub parts_hold_bits : Parts → Bool
  parts_hold_bits no_part = false
  parts_hold_bits (part T ts) = holds_bits T || parts_hold_bits ts

-- there are bits in a value
abbrev mutual
  pub has_bits : Value → Bool
  has_bits (int z) = false
  has_bits (bool b) = false
  has_bits (bits_with bs u) = true
  has_bits (label name l) = false
  has_bits (record_with name xs) = false
  has_bits (exception_with own supers name xs) = false
  has_bits (tuple_with xs) = have_bits xs
  has_bits (array_with k xs) = have_bits xs

  pub have_bits : Values → Bool
  have_bits no_value = false
  have_bits (value x xs) = has_bits x || have_bits xs
