-- The length of an array with the type of its elements.
use Rattle.std.specs.Prelude.{ℕ, Option, Some, None}
use Rattle.asl_rules.specs.types.Types.{Ty, integer_of, boolean, bits_of, enumeration_of, record_of, exception_of, tuple_of, array_of, named}

abbrev pub array_in : Ty → Option (ℕ × Ty)
array_in (array_of n T) = Some (n, T)
array_in (named name supers T) = array_in T
array_in (integer_of ps) = None
array_in boolean = None
array_in (bits_of w view) = None
array_in (enumeration_of name labels) = None
array_in (record_of name fs) = None
array_in (exception_of name fs) = None
array_in (tuple_of ts) = None
