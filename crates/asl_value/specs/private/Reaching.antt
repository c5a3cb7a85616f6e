-- Elements and parts by places that the code has found, and whether a way into a value can be followed.
use Rattle.std.specs.Prelude.{◌≡◌, ℕ, ℤ, pos, negsuc, Bool, true, false, nat_lt, if◌then◌else◌, List, Option, Some, None, Result, Ok, Err}
use Rattle.asl_syn.specs.declared.token.Span.{Span}
use Rattle.asl_syn.specs.declared.code.DynCode.TheVariants.{D06}
use Rattle.asl_rules.specs.private.ByPlace.{Step, into_field, into_bitfield, into_bitfields, into_slices, into_element, field_at, with_field_at, field_in, with_field_in, updated}
use Rattle.asl_rules.specs.values.Values.{Value, Values, FieldValues, tuple_with}
use Rattle.asl_rules.specs.runs.Pures.{◌>>=◌, there}
use Rattle.asl_rules.specs.values.Structures.{value_at, with_value_at, element_of, with_element, inside}
use Rattle.asl_rules.specs.values.Vectors.{bits_at, slice_places, with_slices, bitfield_of, with_bitfield, bitfields_of, with_bitfields}
use Rattle.asl_rules.specs.runs.Plans.{Faulted, Stuck, WrongKind, UnknownType, Pure, Good, Bad}
use Rattle.asl_value.specs.declared.failure.Failure.{Failure}
use Rattle.asl_value.specs.declared.failure.Failure.TheVariants as failure

-- an index into so many elements, where there is one
abbrev pub index_in : ℤ → ℕ → Option ℕ
index_in (pos n) count = if nat_lt n count then Some n else None
index_in (negsuc n) count = None

-- the part of a tuple in this place
abbrev pub part_of_tuple : ℕ → Value → Option Value
part_of_tuple i (tuple_with xs) = value_at i xs
part_of_tuple i x = None

-- the part that a step leads to
abbrev pub step_in : ℕ → Step → Value → Pure Value
step_in limit (into_field span i) x = field_in span i x
step_in limit (into_bitfield span f) x = bitfield_of span f x
step_in limit (into_bitfields span fs) x = bitfields_of limit span fs x
step_in limit (into_slices span ss zs) x = slice_places limit span ss zs x >>= λ ps. bits_at span ps x
step_in limit (into_element span z) x = element_of span x z

-- a value with another as the part that a step leads to
abbrev pub put_back : ℕ → Step → Value → Value → Pure Value
put_back limit (into_field span i) r x = with_field_in span i r x
put_back limit (into_bitfield span f) r x = with_bitfield span f r x
put_back limit (into_bitfields span fs) r x = with_bitfields limit span fs r x
put_back limit (into_slices span ss zs) r x = with_slices limit span ss zs r x
put_back limit (into_element span z) r x = with_element span r x z

-- these fields with another value at the end of the steps behind the one in a place
abbrev pub put_into_fields : ℕ → Bool → Span → ℕ → List Step → Value → FieldValues → Pure FieldValues
put_into_fields limit holds span i ss y xs = there span (field_at i xs) >>= λ q. updated limit holds ss y q >>= λ r. there span (with_field_at i r xs)

-- these elements with another value at the end of the steps behind the one at an index
abbrev pub put_into_elements : ℕ → Bool → Span → ℤ → List Step → Value → Values → Pure Values
put_into_elements limit holds span (pos i) ss y xs = inside span (value_at i xs) >>= λ q. updated limit holds ss y q >>= λ r. inside span (with_value_at i r xs)
put_into_elements limit holds span (negsuc i) ss y xs = Bad (Faulted D06 span)

abbrev pub is_good : {A : Type 0} → Pure A → Bool
is_good (Good x) = true
is_good (Bad e) = false

-- there is an answer, or it fails as is told, or memory was wanting
abbrev pub Reaches : Result (Unit {0}) Failure → Pure Value → Type 0
Reaches (Ok x) r = is_good r ≡ true
Reaches (Err (failure.Fault code span)) r = r ≡ Bad (Faulted code span)
Reaches (Err (failure.WrongKind span)) r = r ≡ Bad (Stuck WrongKind span)
Reaches (Err (failure.UnknownType span)) r = r ≡ Bad (Stuck UnknownType span)
Reaches (Err failure.NoMemory) r = Unit {0}
