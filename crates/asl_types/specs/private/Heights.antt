-- How deep the tree of a type is, each declared name counted.
use Rattle.std.specs.Prelude.{ℕ, suc, max}
use Rattle.asl_rules.specs.types.Types.{Ty, Fields, Parts, integer_of, boolean, bits_of, enumeration_of, record_of, exception_of, tuple_of, array_of, named, no_field, field, no_part, part}

abbrev mutual
  pub height : Ty → ℕ
  height (integer_of ps) = 0
  height boolean = 0
  height (bits_of w view) = 0
  height (enumeration_of name labels) = 0
  height (record_of name fs) = suc (heights_of_fields fs)
  height (exception_of name fs) = suc (heights_of_fields fs)
  height (tuple_of ts) = suc (heights_of_parts ts)
  height (array_of n T) = suc (height T)
  height (named name supers T) = suc (height T)

  pub heights_of_fields : Fields → ℕ
  heights_of_fields no_field = 0
  heights_of_fields (field f T fs) = max (suc (height T)) (heights_of_fields fs)

  pub heights_of_parts : Parts → ℕ
  heights_of_parts no_part = 0
  heights_of_parts (part T ts) = max (suc (height T)) (heights_of_parts ts)
