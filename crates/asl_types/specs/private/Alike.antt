-- Tuples whose parts are all one type.
use Rattle.std.specs.Prelude.{◌≡◌, Bool, true, false}
use Rattle.asl_rules.specs.types.Types.{Ty, Parts, integer_of, boolean, bits_of, enumeration_of, record_of, exception_of, tuple_of, array_of, named, no_part, part}

-- each part is this type
abbrev pub AllAre : Ty → Parts → Type 0
AllAre T no_part = Unit {0}
AllAre T (part U ts) = (U ≡ T) × AllAre T ts

abbrev pub Alike : Parts → Type 0
Alike no_part = Unit {0}
Alike (part T ts) = AllAre T ts

-- what a mark says of parts: where it is set, they are alike
abbrev pub IsAlike : Bool → Parts → Type 0
IsAlike false ts = Unit {0}
IsAlike true ts = Alike ts

-- the parts of a tuple, and none of any other type, a declared name's among them
abbrev pub own_parts : Ty → Parts
own_parts (tuple_of ts) = ts
own_parts (integer_of ps) = no_part
own_parts boolean = no_part
own_parts (bits_of w view) = no_part
own_parts (enumeration_of name labels) = no_part
own_parts (record_of name fs) = no_part
own_parts (exception_of name fs) = no_part
own_parts (array_of n T) = no_part
own_parts (named name supers T) = no_part
