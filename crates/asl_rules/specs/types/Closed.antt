-- Types as a run sees them: widths are numbers, constraints are ranges of integers, and nothing in them names a value.
use Rattle.std.specs.Prelude.{ℕ, ◌==◌, ℤ, pos, negsuc, ◌-ℤ◌, Bool, true, false, ◌&&◌, ◌||◌, if◌then◌else◌, nat_le, List, [], ◌∷◌, Option, Some, None}
use Rattle.std.specs.Str.{bytes_eq}
use Rattle.asl_num.specs.Exact.{floor_div, floor_mod}
use Rattle.asl_poly.specs.Terms.{Polynomial}
use Rattle.asl_poly.specs.Fractions.{Fraction, whole, fraction_at}
use Rattle.asl_cons.specs.declared.End.{End}
use Rattle.asl_cons.specs.declared.End.TheVariants.{Int, Width}
use Rattle.asl_cons.specs.declared.Part.{Part}
use Rattle.asl_rules.specs.types.Types.{Ty, Fields, Parts, View, Kind, Kinds, integers, booleans, bitvectors, enumerations, records, exceptions, tuples, arrays, no_kind, one_more, kind}
use Rattle.asl_rules.specs.types.Types as ty

-- the integers from the lowest to the highest
pub record Range : Type 0 where
  pub low : ℤ
  pub high : ℤ

-- an array has the kind of its elements beside their type
mutual
  pub data Closed : Type 0 where
    integer_in : Option (List Range) → Closed
    boolean : Closed
    bits_of : ℤ → View → Closed
    enumeration_of : List ℕ → List (List ℕ) → Closed
    record_of : List ℕ → ClosedFields → Closed
    exception_of : List ℕ → ClosedFields → Closed
    tuple_of : ClosedParts → Closed
    array_of : ℕ → Kind → Closed → Closed
    named : List ℕ → List (List ℕ) → Closed → Closed

  pub data ClosedFields : Type 0 where
    no_field : ClosedFields
    field : List ℕ → Closed → ClosedFields → ClosedFields

  pub data ClosedParts : Type 0 where
    no_part : ClosedParts
    part : Closed → ClosedParts → ClosedParts

abbrev pub integer : Closed
integer = integer_in None

-- ---- integers

abbrev pub not_above : ℤ → ℤ → Bool
not_above (pos a) (pos b) = nat_le a b
not_above (pos a) (negsuc b) = false
not_above (negsuc a) (pos b) = true
not_above (negsuc a) (negsuc b) = nat_le b a

abbrev pub in_one : ℤ → Range → Bool
in_one z r = not_above r.low z && not_above z r.high

abbrev pub in_some : ℤ → List Range → Bool
in_some z [] = false
in_some z (r ∷ rs) = in_one z r || in_some z rs

-- an integer in a constraint, where there is one
abbrev pub is_in : ℤ → Option (List Range) → Bool
is_in z None = true
is_in z (Some rs) = in_some z rs

-- the first value of the first range that isn't empty
abbrev pub lowest : List Range → Option ℤ
lowest [] = None
lowest (r ∷ rs) = if not_above r.low r.high then Some r.low else lowest rs

-- 0 where it may be, else the lowest
abbrev pub first_in : Option (List Range) → Option ℤ
first_in None = Some (pos 0)
first_in (Some rs) = if in_some (pos 0) rs then Some (pos 0) else lowest rs

-- ---- kinds, and what a name stands for

abbrev mutual
  pub kind_at : Closed → Kind
  kind_at (integer_in c) = integers
  kind_at boolean = booleans
  kind_at (bits_of w u) = bitvectors
  kind_at (enumeration_of name labels) = enumerations name
  kind_at (record_of name fs) = records name
  kind_at (exception_of name fs) = exceptions name
  kind_at (tuple_of ts) = tuples (kinds_at ts)
  kind_at (array_of n k T) = arrays n k
  kind_at (named name supers T) = kind_at T

  pub kinds_at : ClosedParts → Kinds
  kinds_at no_part = no_kind
  kinds_at (part T ts) = one_more (kind_at T) (kinds_at ts)

-- the parts of a tuple
abbrev pub parts_at : Closed → Option ClosedParts
parts_at (tuple_of ts) = Some ts
parts_at (named name supers T) = parts_at T
parts_at T = None

-- the fields of a record or an exception
abbrev pub fields_at : Closed → Option ClosedFields
fields_at (record_of name fs) = Some fs
fields_at (exception_of name fs) = Some fs
fields_at (named name supers T) = fields_at T
fields_at T = None

abbrev pub field_among : List ℕ → ClosedFields → Option Closed
field_among f no_field = None
field_among f (field g T fs) = if bytes_eq g f then Some T else field_among f fs

-- ---- types with an integer for each atom: widths and ends are fractions then, of which a closed type has the integers that lie in it

-- which integers the atoms of widths stand for
abbrev pub Assignment : Type 0
Assignment = ℕ → ℤ

-- the greatest integer up to a fraction, and the least from it on
abbrev pub floor : Fraction → ℤ
floor r = floor_div r.number r.denominator

abbrev pub ceiling : Fraction → ℤ
ceiling r = pos 0 -ℤ floor_div (pos 0 -ℤ r.number) r.denominator

-- how many bits a width is; one that isn't whole is that of no bits, as one below 0 is
abbrev pub width_in : Fraction → ℤ
width_in r = if floor_mod r.number r.denominator == 0 then floor r else negsuc 0

-- the integers from one fraction to another
abbrev pub range_in : Fraction → Fraction → Range
range_in r s = record { low = ceiling r; high = floor s }

abbrev pub width_at : Polynomial → Assignment → ℤ
width_at p a = width_in (fraction_at a p)

abbrev pub end_at : End → Assignment → Fraction
end_at (Int z) a = whole z
end_at (Width p) a = fraction_at a p

abbrev pub ranges_at : List Part → Assignment → List Range
ranges_at [] a = []
ranges_at (p ∷ ps) a = range_in (end_at p.low a) (end_at p.high a) ∷ ranges_at ps a

-- no parts are the whole constraint
abbrev pub constraint_at : List Part → Assignment → Option (List Range)
constraint_at [] a = None
constraint_at (p ∷ ps) a = Some (ranges_at (p ∷ ps) a)

abbrev mutual
  pub type_with : Ty → Assignment → Closed
  type_with (ty.integer_of ps) a = integer_in (constraint_at ps a)
  type_with ty.boolean a = boolean
  type_with (ty.bits_of w u) a = bits_of (width_at w a) u
  type_with (ty.enumeration_of name labels) a = enumeration_of name labels
  type_with (ty.record_of name fs) a = record_of name (fields_with fs a)
  type_with (ty.exception_of name fs) a = exception_of name (fields_with fs a)
  type_with (ty.tuple_of ts) a = tuple_of (parts_with ts a)
  type_with (ty.array_of n T) a = array_of n (kind T) (type_with T a)
  type_with (ty.named name supers T) a = named name supers (type_with T a)

  pub fields_with : Fields → Assignment → ClosedFields
  fields_with ty.no_field a = no_field
  fields_with (ty.field f T fs) a = field f (type_with T a) (fields_with fs a)

  pub parts_with : Parts → Assignment → ClosedParts
  parts_with ty.no_part a = no_part
  parts_with (ty.part T ts) a = part (type_with T a) (parts_with ts a)

-- a type outside bodies, which has no atoms
abbrev pub closed : Ty → Closed
closed T = type_with T (λ n. pos 0)
