-- The parts of values by their places: a field by its number among the fields, a bitfield by its places, and a replacement at the end of a way into a value; and
-- what a value takes of a type that is written for it.
use Rattle.std.specs.Prelude.{ℕ, zero, suc, Bool, List, [], ◌∷◌, Option, Some, None, option_map, slice_get}
use Rattle.asl_syn.specs.declared.token.Span.{Span}
use Rattle.asl_rules.specs.types.Types.{Ty, Parts, BitField, integer_of, boolean, bits_of, enumeration_of, record_of, exception_of, tuple_of, array_of, named, part}
use Rattle.asl_rules.specs.types.Shapes.{SliceShape}
use Rattle.asl_rules.specs.runs.Trees.{Shell, record_shell, exception_shell, FieldGiven}
use Rattle.asl_rules.specs.values.Values.{Value, FieldValues, Values, bits_with, record_with, exception_with, tuple_with, array_with, no_value_of, value_of_field, no_value, value}
use Rattle.asl_rules.specs.types.Views.{adopting}
use Rattle.asl_rules.specs.runs.Pures.{◌>>=◌, there}
use Rattle.asl_rules.specs.values.Structures.{element_of, with_element, value_at}
use Rattle.asl_rules.specs.values.Vectors.{bits_at, slice_places, with_slices, bitfield_of, with_bitfield, bitfields_of, with_bitfields}
use Rattle.asl_rules.specs.runs.Plans.{Stuck, WrongKind, Pure, Good, Bad}

-- ---- what a value takes of a written type

-- a value in a place of this type: its bits carry the bitfields that are written there; bits in fields keep theirs
abbrev mutual
  pub seen_as : Ty → Value → Value
  seen_as (named name supers T) x = seen_as T x
  seen_as (bits_of w u) (bits_with bs v) = bits_with bs u
  seen_as (tuple_of ts) (tuple_with xs) = tuple_with (parts_seen_as ts xs)
  seen_as (array_of n T) (array_with k xs) = array_with k (all_seen_as T xs)
  seen_as (integer_of ps) x = x
  seen_as boolean x = x
  seen_as (bits_of w u) x = x
  seen_as (enumeration_of name labels) x = x
  seen_as (record_of name fs) x = x
  seen_as (exception_of name fs) x = x
  seen_as (tuple_of ts) x = x
  seen_as (array_of n T) x = x

  pub parts_seen_as : Parts → Values → Values
  parts_seen_as (part T ts) (value x xs) = value (seen_as T x) (parts_seen_as ts xs)
  parts_seen_as ts xs = xs

  pub all_seen_as : Ty → Values → Values
  all_seen_as T no_value = no_value
  all_seen_as T (value x xs) = value (seen_as T x) (all_seen_as T xs)

-- where a type is written
abbrev pub seen_where : Option Ty → Value → Value
seen_where None x = x
seen_where (Some T) x = seen_as T x

-- ---- fields

abbrev pub field_at : ℕ → FieldValues → Option Value
field_at i no_value_of = None
field_at zero (value_of_field f x xs) = Some x
field_at (suc i) (value_of_field f x xs) = field_at i xs

-- these fields with another value in a place, where there is that place
abbrev pub with_field_at : ℕ → Value → FieldValues → Option FieldValues
with_field_at i y no_value_of = None
with_field_at zero y (value_of_field f x xs) = Some (value_of_field f y xs)
with_field_at (suc i) y (value_of_field f x xs) = option_map (λ ys. value_of_field f x ys) (with_field_at i y xs)

-- the field of a record or an exception in this place
abbrev pub field_in : Span → ℕ → Value → Pure Value
field_in span i (record_with name xs) = there span (field_at i xs)
field_in span i (exception_with own supers name xs) = there span (field_at i xs)
field_in span i x = Bad (Stuck WrongKind span)

abbrev pub with_field_in : Span → ℕ → Value → Value → Pure Value
with_field_in span i y (record_with name xs) = there span (option_map (λ ys. record_with name ys) (with_field_at i y xs))
with_field_in span i y (exception_with own supers name xs) = there span (option_map (λ ys. exception_with own supers name ys) (with_field_at i y xs))
with_field_in span i y x = Bad (Stuck WrongKind span)

-- ---- replacements

-- a step into a value, with the place of its faults
pub data Step : Type 0 where
  into_field : Span → ℕ → Step
  into_bitfield : Span → BitField → Step
  into_bitfields : Span → List BitField → Step
  into_slices : Span → List SliceShape → List Value → Step
  into_element : Span → Value → Step

-- the value with another at the end of these steps, where it takes the bitfields of the one that it replaces; it is known whether bits occur in its type
abbrev pub updated : ℕ → Bool → List Step → Value → Value → Pure Value
updated limit holds [] y x = Good (adopting holds x y)
updated limit holds (into_field span i ∷ ss) y x = field_in span i x >>= λ q. updated limit holds ss y q >>= λ r. with_field_in span i r x
updated limit holds (into_bitfield span f ∷ ss) y x = bitfield_of span f x >>= λ q. updated limit holds ss y q >>= λ r. with_bitfield span f r x
updated limit holds (into_bitfields span fs ∷ ss) y x = bitfields_of limit span fs x >>= λ q. updated limit holds ss y q >>= λ r. with_bitfields limit span fs r x
updated limit holds (into_slices span shapes zs ∷ ss) y x =
    slice_places limit span shapes zs x >>= λ ps. bits_at span ps x >>= λ q. updated limit holds ss y q >>= λ r. with_slices limit span shapes zs r x
updated limit holds (into_element span i ∷ ss) y x = element_of span x i >>= λ q. updated limit holds ss y q >>= λ r. with_element span r x i

-- ---- parts of tuples

-- the part of a tuple at the end of a way of places
abbrev pub part_in : Span → List ℕ → Value → Pure Value
part_in span [] x = Good x
part_in span (i ∷ is) (tuple_with xs) = there span (value_at i xs) >>= λ y. part_in span is y
part_in span (i ∷ is) x = Bad (Stuck WrongKind span)

-- ---- constructions

-- these fields with the values that were given, each with the bitfields of its type
abbrev pub filled : Ty → Option Value → List ℕ → Option FieldValues → Option FieldValues
filled T (Some x) f (Some xs) = Some (value_of_field f (seen_as T x) xs)
filled T None f rest = None
filled T (Some x) f None = None

abbrev pub fields_from : List FieldGiven → List Value → Option FieldValues
fields_from [] xs = Some no_value_of
fields_from (g ∷ gs) xs = filled g.ty (slice_get xs g.place) g.name (fields_from gs xs)

abbrev pub in_shell : Shell → FieldValues → Value
in_shell (record_shell name) xs = record_with name xs
in_shell (exception_shell own supers name) xs = exception_with own supers name xs

abbrev pub constructed : Span → Shell → List FieldGiven → List Value → Pure Value
constructed span s gs xs = there span (option_map (in_shell s) (fields_from gs xs))
