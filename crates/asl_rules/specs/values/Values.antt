-- Values, their kinds and their types, and how the execution of a statement ends.
use Rattle.std.specs.Prelude.{ℕ, zero, suc, ◌==◌, ℤ, pos, negsuc, Bool, true, false, ◌&&◌, List, [], ◌∷◌, length, Option}
use Rattle.std.specs.Str.{bytes_eq}
use Rattle.asl_rules.specs.types.Types.{View, Kind, Kinds, integers, booleans, bitvectors, enumerations, records, exceptions, tuples, arrays, no_kind, one_more, kind_eq, reaches, is_among}
use Rattle.asl_rules.specs.types.Closed as cl
use Rattle.asl_rules.specs.types.Closed.{Closed, ClosedFields, ClosedParts, is_in}

-- bits stand lowest first, with the bitfields that they carry; a label and a record have the name of the declaration that
-- writes their type, an exception also that of the type that it was built with and the names which that reaches, and an
-- array the kind of its elements
mutual
  pub data Value : Type 0 where
    int : ℤ → Value
    bool : Bool → Value
    bits_with : List Bool → View → Value
    label : List ℕ → List ℕ → Value
    record_with : List ℕ → FieldValues → Value
    exception_with : List ℕ → List (List ℕ) → List ℕ → FieldValues → Value
    tuple_with : Values → Value
    array_with : Kind → Values → Value

  pub data FieldValues : Type 0 where
    no_value_of : FieldValues
    value_of_field : List ℕ → Value → FieldValues → FieldValues

  pub data Values : Type 0 where
    no_value : Values
    value : Value → Values → Values

abbrev pub count : Values → ℕ
count no_value = 0
count (value x xs) = suc (count xs)

abbrev mutual
  pub kind_of : Value → Kind
  kind_of (int z) = integers
  kind_of (bool b) = booleans
  kind_of (bits_with bs v) = bitvectors
  kind_of (label name l) = enumerations name
  kind_of (record_with name xs) = records name
  kind_of (exception_with own supers name xs) = exceptions name
  kind_of (tuple_with xs) = tuples (kinds_of xs)
  kind_of (array_with k xs) = arrays (count xs) k

  pub kinds_of : Values → Kinds
  kinds_of no_value = no_kind
  kinds_of (value x xs) = one_more (kind_of x) (kinds_of xs)

-- ---- belonging

abbrev pub is_exception : List ℕ → Value → Bool
is_exception target (exception_with own supers name xs) = reaches own supers target
is_exception target x = true

-- so many bits have this width
abbrev pub is_width : ℕ → ℤ → Bool
is_width n (pos w) = n == w
is_width n (negsuc w) = false

-- the value is of the kind of the type, has its width, lies in its constraint, and reaches its name, part by part
abbrev mutual
  pub has : Value → Closed → Bool
  has x (cl.named name supers T) = is_exception name x && has x T
  has (int z) (cl.integer_in c) = is_in z c
  has (bool b) cl.boolean = true
  has (bits_with bs v) (cl.bits_of w u) = is_width (length bs) w
  has (label name l) (cl.enumeration_of n labels) = bytes_eq name n && is_among l labels
  has (record_with name xs) (cl.record_of n fs) = bytes_eq name n && fields_in xs fs
  has (exception_with own supers name xs) (cl.exception_of n fs) = bytes_eq name n && fields_in xs fs
  has (tuple_with xs) (cl.tuple_of ts) = parts_in xs ts
  has (array_with k xs) (cl.array_of n l T) = (kind_eq k l && (count xs == n)) && all_in xs T
  has x T = false

  pub fields_in : FieldValues → ClosedFields → Bool
  fields_in no_value_of cl.no_field = true
  fields_in (value_of_field f x xs) (cl.field g T fs) = bytes_eq f g && (has x T && fields_in xs fs)
  fields_in xs fs = false

  pub parts_in : Values → ClosedParts → Bool
  parts_in no_value cl.no_part = true
  parts_in (value x xs) (cl.part T ts) = has x T && parts_in xs ts
  parts_in xs ts = false

  pub all_in : Values → Closed → Bool
  all_in no_value T = true
  all_in (value x xs) T = has x T && all_in xs T

-- ---- initial values

abbrev pub repeated : ℕ → Value → Values
repeated zero x = no_value
repeated (suc n) x = value x (repeated n x)

abbrev pub first_label : List (List ℕ) → List ℕ
first_label [] = []
first_label (l ∷ ls) = l

-- an exception as one that is built with this name, which reaches these; any other value itself
abbrev pub named_as : List ℕ → List (List ℕ) → Value → Value
named_as own supers (exception_with o s name xs) = exception_with own supers name xs
named_as own supers x = x

-- a statement ends normally, or with `return`, which gives a value or none
pub data Exit : Type 0 where
  Normal : Exit
  Returned : Option Value → Exit
