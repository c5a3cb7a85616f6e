-- The parts of values: elements, fields and parts, and values with others in their places.
use Rattle.std.specs.Prelude.{ℕ, zero, suc, pos, negsuc, if◌then◌else◌, List, [], ◌∷◌, Option, Some, None, option_map, option_and_then}
use Rattle.std.specs.Str.{bytes_eq}
use Rattle.asl_syn.specs.declared.token.Span.{Span}
use Rattle.asl_syn.specs.declared.code.DynCode.TheVariants.{D06}
use Rattle.asl_rules.specs.types.Closed as cl
use Rattle.asl_rules.specs.types.Closed.{Closed, ClosedFields, fields_at, field_among}
use Rattle.asl_rules.specs.values.Values.{Value, FieldValues, Values, int, bits_with, record_with, exception_with, tuple_with, array_with, no_value_of, value_of_field, no_value, value}
use Rattle.asl_rules.specs.runs.States.{of_type, kept}
use Rattle.asl_rules.specs.runs.Plans.{Faulted, Stuck, WrongKind, Pure, Good, Bad}
use Rattle.asl_rules.specs.runs.Pures.{◌>>=◌, there, known}
use Rattle.asl_rules.specs.types.Shaped.{Named}
use Rattle.asl_rules.specs.values.Vectors.{bitfield_named, bitfield_of, with_bitfield}

-- ---- elements

abbrev pub value_at : ℕ → Values → Option Value
value_at i no_value = None
value_at zero (value x xs) = Some x
value_at (suc i) (value x xs) = value_at i xs

-- these values with another in a place, where there is that place
abbrev pub with_value_at : ℕ → Value → Values → Option Values
with_value_at i y no_value = None
with_value_at zero y (value x xs) = Some (value y xs)
with_value_at (suc i) y (value x xs) = option_map (λ ys. value x ys) (with_value_at i y xs)

-- D06 where there is no such element
abbrev pub inside : {A : Type 0} → Span → Option A → Pure A
inside span None = Bad (Faulted D06 span)
inside span (Some x) = Good x

abbrev pub element_of : Span → Value → Value → Pure Value
element_of span (array_with k xs) (int (pos i)) = inside span (value_at i xs)
element_of span (array_with k xs) (int (negsuc i)) = Bad (Faulted D06 span)
element_of span x i = Bad (Stuck WrongKind span)

abbrev pub with_element : Span → Value → Value → Value → Pure Value
with_element span y (array_with k xs) (int (pos i)) = inside span (option_map (λ ys. array_with k ys) (with_value_at i y xs))
with_element span y (array_with k xs) (int (negsuc i)) = Bad (Faulted D06 span)
with_element span y x i = Bad (Stuck WrongKind span)

-- ---- fields

abbrev pub field_value : List ℕ → FieldValues → Option Value
field_value f no_value_of = None
field_value f (value_of_field g x xs) = if bytes_eq g f then Some x else field_value f xs

abbrev pub with_field_value : List ℕ → Value → FieldValues → Option FieldValues
with_field_value f y no_value_of = None
with_field_value f y (value_of_field g x xs) = if bytes_eq g f then Some (value_of_field g y xs) else option_map (λ ys. value_of_field g x ys) (with_field_value f y xs)

-- a field of a record or an exception, or a bitfield
abbrev pub field_of : Span → List ℕ → Value → Pure Value
field_of span f (record_with name xs) = there span (field_value f xs)
field_of span f (exception_with own supers name xs) = there span (field_value f xs)
field_of span f (bits_with bs v) = bitfield_named span f v >>= λ g. bitfield_of span g (bits_with bs v)
field_of span f x = Bad (Stuck WrongKind span)

-- the type that is written for a field
abbrev pub field_type : Option Closed → List ℕ → Option Closed
field_type T f = option_and_then (λ fs. field_among f fs) (option_and_then fields_at T)

-- a value as the field keeps it
abbrev pub in_field : Named → Span → List ℕ → List ℕ → Value → Pure Value
in_field types span name f y = there span (field_type (types name) f) >>= λ T. there span (kept (of_type T) y)

abbrev pub with_field : Named → Span → List ℕ → Value → Value → Pure Value
with_field types span f y (record_with name xs) = in_field types span name f y >>= λ z. there span (option_map (λ ys. record_with name ys) (with_field_value f z xs))
with_field types span f y (exception_with own supers name xs) = in_field types span name f y >>= λ z. there span (option_map (λ ys. exception_with own supers name ys) (with_field_value f z xs))
with_field types span f y (bits_with bs v) = bitfield_named span f v >>= λ g. with_bitfield span g y (bits_with bs v)
with_field types span f y x = Bad (Stuck WrongKind span)

-- ---- constructions: the names of the fields that are given, and their values

abbrev pub given_value : List ℕ → List (List ℕ) → List Value → Option Value
given_value f [] xs = None
given_value f (g ∷ gs) [] = None
given_value f (g ∷ gs) (x ∷ xs) = if bytes_eq g f then Some x else given_value f gs xs

abbrev pub with_given : List ℕ → Option Value → Option FieldValues → Option FieldValues
with_given f None rest = None
with_given f (Some x) rest = option_map (λ xs. value_of_field f x xs) rest

-- the fields in the order of the type, each as it is kept under its type
abbrev pub fields_given : ClosedFields → List (List ℕ) → List Value → Option FieldValues
fields_given cl.no_field gs xs = Some no_value_of
fields_given (cl.field f T fs) gs xs = with_given f (option_and_then (kept (of_type T)) (given_value f gs xs)) (fields_given fs gs xs)

-- a value of the type that a construction names, an exception by the name that it was built with
abbrev pub built : Span → List ℕ → List (List ℕ) → Closed → List (List ℕ) → List Value → Pure Value
built span own supers (cl.record_of name fs) gs xs = there span (option_map (λ ys. record_with name ys) (fields_given fs gs xs))
built span own supers (cl.exception_of name fs) gs xs = there span (option_map (λ ys. exception_with own supers name ys) (fields_given fs gs xs))
built span own supers (cl.named name others T) gs xs = built span own supers T gs xs
built span own supers T gs xs = Bad (Stuck WrongKind span)

abbrev pub construct : Span → Closed → List (List ℕ) → List Value → Pure Value
construct span (cl.named name supers T) gs xs = built span name supers T gs xs
construct span T gs xs = built span [] [] T gs xs

abbrev pub constructed : Span → Option Closed → List (List ℕ) → List Value → Pure Value
constructed span o gs xs = known span o >>= λ T. construct span T gs xs

-- ---- tuples

abbrev pub values_in : Values → List Value
values_in no_value = []
values_in (value x xs) = x ∷ values_in xs

abbrev pub values_of : List Value → Values
values_of [] = no_value
values_of (x ∷ xs) = value x (values_of xs)

-- the parts of a tuple
abbrev pub parts : Span → Value → Pure (List Value)
parts span (tuple_with xs) = Good (values_in xs)
parts span x = Bad (Stuck WrongKind span)
