-- Declared names of which one is the other or reaches it.
use Rattle.std.specs.Prelude.{ℕ, Bool, false, List, ◌||◌}
use Rattle.asl_rules.specs.types.Types.{Ty, integer_of, boolean, bits_of, enumeration_of, record_of, exception_of, tuple_of, array_of, named, reaches}

-- the type is a declared name that is this one, reaches it or is reached by it
abbrev pub is_related : List ℕ → List (List ℕ) → Ty → Bool
is_related name supers (named other others T) = reaches name supers other || reaches other others name
is_related name supers (integer_of ps) = false
is_related name supers boolean = false
is_related name supers (bits_of w view) = false
is_related name supers (enumeration_of n labels) = false
is_related name supers (record_of n fs) = false
is_related name supers (exception_of n fs) = false
is_related name supers (tuple_of ts) = false
is_related name supers (array_of n T) = false
