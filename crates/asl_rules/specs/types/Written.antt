-- Types as they are written, with the values of the expressions in them: what type it is, and what a variable of it begins with.
use Rattle.std.specs.Prelude.{ℕ, zero, suc, ℤ, pos, negsuc, false, if◌then◌else◌, nat_le, List, [], ◌∷◌, replicate, Option, Some, None, option_map, option_and_then}
use Rattle.asl_syn.specs.declared.token.Span.{Span}
use Rattle.asl_syn.specs.declared.code.DynCode.TheVariants.{D07, D14, D16}
use Rattle.asl_syn.specs.declared.tree.Bitfield.{Bitfield}
use Rattle.asl_syn.specs.declared.tree.ConstraintPart.{ConstraintPart}
use Rattle.asl_syn.specs.declared.tree.Expr.{Expr}
use Rattle.asl_syn.specs.declared.tree.FieldValue.{FieldValue}
use Rattle.asl_syn.specs.declared.tree.Pattern.{Pattern}
use Rattle.asl_syn.specs.declared.tree.Slice.{Slice}
use Rattle.asl_syn.specs.declared.tree.TypeExpr.{TypeExpr, out-TypeExpr}
use Rattle.asl_syn.specs.declared.tree.Bitfield.TheOpen as ex
use Rattle.asl_syn.specs.declared.tree.Bitfield.TheFolds.{para-TypeExpr}
use Rattle.asl_syn.specs.Layers.{TypeLayer}
use Rattle.asl_poly.specs.Poly.{constant_value}
use Rattle.asl_rules.specs.types.Types.{View, Kind, Kinds, kind_eq, integers, booleans, bitvectors, tuples, arrays, no_kind, one_more}
use Rattle.asl_rules.specs.types.Closed as cl
use Rattle.asl_rules.specs.types.Closed.{Range, Closed, ClosedParts, kind_at, first_in}
use Rattle.asl_rules.specs.types.Shapes as shapes
use Rattle.asl_rules.specs.types.Shapes.{PartShape, BitfieldShape, TypeShape, TypeShapes}
use Rattle.asl_rules.specs.types.Shaped.{Named, Unread}
use Rattle.asl_rules.specs.values.Values.{Value, Values, FieldValues, int, bool, bits_with, label, record_with, exception_with, tuple_with, array_with, no_value_of, value_of_field, no_value, value, repeated, first_label, named_as, kind_of, has}
use Rattle.asl_rules.specs.types.Views.{viewed}
use Rattle.asl_rules.specs.runs.Plans.{Faulted, Stuck, WrongKind, Pure, Good, Bad}
use Rattle.asl_rules.specs.runs.Pures.{◌>>=◌, found_type}
use Rattle.asl_rules.specs.types.Alone.{Polynomials, polynomial}

abbrev pub type_layer_span : TypeLayer → Span
type_layer_span (ex.IntegerType span ps) = span
type_layer_span (ex.BooleanType span) = span
type_layer_span (ex.BitType span) = span
type_layer_span (ex.NamedType span name) = span
type_layer_span (ex.BitsType span e fs) = span
type_layer_span (ex.TupleType span ts) = span
type_layer_span (ex.ArrayType span e t) = span

abbrev pub type_span : TypeExpr → Span
type_span t = type_layer_span (out-TypeExpr t)

-- ---- the value that a variable of a type begins with

-- a type without a value: D16
abbrev pub first_integer : Span → Option ℤ → Pure Value
first_integer span None = Bad (Faulted D16 span)
first_integer span (Some z) = Good (int z)

-- bits of this width, all 0: D14 where there are no such bits
abbrev pub first_bits : ℕ → Span → ℤ → View → Pure Value
first_bits limit span (pos w) u = if nat_le w limit then Good (bits_with (replicate w false) u) else Bad (Faulted D14 span)
first_bits limit span (negsuc w) u = Bad (Faulted D14 span)

abbrev pub first_elements : ℕ → Kind → Pure Value → Pure Value
first_elements zero k r = Good (array_with k no_value)
first_elements (suc n) k r = r >>= λ x. Good (array_with k (repeated (suc n) x))

-- of a type that a name stands for
abbrev mutual
  pub first_value : ℕ → Span → Closed → Pure Value
  first_value limit span (cl.integer_in c) = first_integer span (first_in c)
  first_value limit span cl.boolean = Good (bool false)
  first_value limit span (cl.bits_of w u) = first_bits limit span w u
  first_value limit span (cl.enumeration_of name labels) = Good (label name (first_label labels))
  first_value limit span (cl.record_of name fs) = first_fields limit span fs >>= λ xs. Good (record_with name xs)
  first_value limit span (cl.exception_of name fs) = first_fields limit span fs >>= λ xs. Good (exception_with name [] name xs)
  first_value limit span (cl.tuple_of ts) = first_parts limit span ts >>= λ xs. Good (tuple_with xs)
  first_value limit span (cl.array_of n k T) = first_elements n k (first_value limit span T)
  first_value limit span (cl.named name supers T) = first_value limit span T >>= λ x. Good (named_as name supers x)

  pub first_fields : ℕ → Span → cl.ClosedFields → Pure FieldValues
  first_fields limit span cl.no_field = Good no_value_of
  first_fields limit span (cl.field f T fs) = first_value limit span T >>= λ x. first_fields limit span fs >>= λ xs. Good (value_of_field f x xs)

  pub first_parts : ℕ → Span → ClosedParts → Pure Values
  first_parts limit span cl.no_part = Good no_value
  first_parts limit span (cl.part T ts) = first_value limit span T >>= λ x. first_parts limit span ts >>= λ xs. Good (value x xs)

-- ---- a written type with the values of its expressions

-- the type, what a variable of it begins with, and the values that are left
pub record Sized : Type 0 where
  pub type_is : Closed
  pub first : Pure Value
  pub left : List Value

abbrev pub sized_as : Closed → Pure Value → List Value → Option Sized
sized_as T r zs = Some (record { type_is = T; first = r; left = zs })

-- the ranges of a constraint
pub record SizedRanges : Type 0 where
  pub ranges : List Range
  pub left : List Value

abbrev pub with_range : ℤ → ℤ → Option SizedRanges → Option SizedRanges
with_range a b o = option_map (λ (r : SizedRanges). record r { ranges = record { low = a; high = b } ∷ r.ranges }) o

abbrev pub only_one : List Value → (List Value → Option SizedRanges) → Option SizedRanges
only_one (int a ∷ zs) rest = with_range a a (rest zs)
only_one zs rest = None

abbrev pub both_ends : List Value → (List Value → Option SizedRanges) → Option SizedRanges
both_ends (int a ∷ int b ∷ zs) rest = with_range a b (rest zs)
both_ends zs rest = None

abbrev pub part_range : PartShape → List Value → (List Value → Option SizedRanges) → Option SizedRanges
part_range shapes.only zs rest = only_one zs rest
part_range shapes.from_to zs rest = both_ends zs rest

abbrev pub all_ranges : List PartShape → List Value → Option SizedRanges
all_ranges [] zs = Some (record { ranges = []; left = zs })
all_ranges (p ∷ ps) zs = part_range p zs (all_ranges ps)

abbrev pub integer_filled : Span → Option (List Range) → List Value → Option Sized
integer_filled whole c zs = sized_as (cl.integer_in c) (first_integer whole (first_in c)) zs

-- no parts are the whole constraint
abbrev pub constraint_filled : Span → List PartShape → List Value → Option Sized
constraint_filled whole [] zs = integer_filled whole None zs
constraint_filled whole (p ∷ ps) zs = option_and_then (λ (r : SizedRanges). integer_filled whole (Some r.ranges) r.left) (all_ranges (p ∷ ps) zs)

-- the bitfields of bits
pub record SizedView : Type 0 where
  pub view : View
  pub left : List Value

abbrev pub with_bitfield : List ℕ → ℕ → ℕ → Option SizedView → Option SizedView
with_bitfield name h l o = option_map (λ (v : SizedView). record v { view = record { name = name; high = h; low = l } ∷ v.view }) o

abbrev pub at_one_place : List ℕ → List Value → (List Value → Option SizedView) → Option SizedView
at_one_place name (int (pos n) ∷ zs) rest = with_bitfield name n n (rest zs)
at_one_place name zs rest = None

abbrev pub at_many_places : List ℕ → List Value → (List Value → Option SizedView) → Option SizedView
at_many_places name (int (pos h) ∷ int (pos l) ∷ zs) rest = with_bitfield name h l (rest zs)
at_many_places name zs rest = None

abbrev pub bitfield_at : BitfieldShape → List Value → (List Value → Option SizedView) → Option SizedView
bitfield_at (shapes.one_place name) zs rest = at_one_place name zs rest
bitfield_at (shapes.many_places name) zs rest = at_many_places name zs rest

abbrev pub all_bitfields : List BitfieldShape → List Value → Option SizedView
all_bitfields [] zs = Some (record { view = []; left = zs })
all_bitfields (b ∷ bs) zs = bitfield_at b zs (all_bitfields bs)

abbrev pub bits_filled : ℕ → Span → ℤ → View → List Value → Option Sized
bits_filled limit span w u zs = sized_as (cl.bits_of w u) (first_bits limit span w u) zs

abbrev pub width_filled : ℕ → Span → List BitfieldShape → List Value → Option Sized
width_filled limit span fs (int w ∷ zs) = option_and_then (λ (v : SizedView). bits_filled limit span w v.view v.left) (all_bitfields fs zs)
width_filled limit span fs zs = None

-- tuples
pub record SizedParts : Type 0 where
  pub parts : ClosedParts
  pub first : Pure Values
  pub left : List Value

abbrev pub with_part : Sized → Option SizedParts → Option SizedParts
with_part s o = option_map (λ (q : SizedParts). record { parts = cl.part s.type_is q.parts; first = s.first >>= λ x. q.first >>= λ xs. Good (value x xs); left = q.left }) o

abbrev pub first_part : Option Sized → (List Value → Option SizedParts) → Option SizedParts
first_part None rest = None
first_part (Some s) rest = with_part s (rest s.left)

abbrev pub tuple_filled : Option SizedParts → Option Sized
tuple_filled o = option_and_then (λ (p : SizedParts). sized_as (cl.tuple_of p.parts) (p.first >>= λ xs. Good (tuple_with xs)) p.left) o

-- arrays
abbrev pub array_filled : ℕ → Option Sized → Option Sized
array_filled n o = option_and_then (λ (s : Sized). sized_as (cl.array_of n (kind_at s.type_is) s.type_is) (first_elements n (kind_at s.type_is) s.first) s.left) o

abbrev pub by_length : List Value → (List Value → Option Sized) → Option Sized
by_length (int (pos n) ∷ zs) element = array_filled n (element zs)
by_length zs element = None

-- what a written type is, with the values of its expressions and of those behind; the whole type has the place of D16
abbrev mutual
  pub filled : ℕ → Span → TypeShape → List Value → Option Sized
  filled limit whole (shapes.integer_of ps) zs = constraint_filled whole ps zs
  filled limit whole shapes.boolean zs = sized_as cl.boolean (Good (bool false)) zs
  filled limit whole (shapes.one_bit span) zs = bits_filled limit span (pos 1) [] zs
  filled limit whole (shapes.bits_of span fs) zs = width_filled limit span fs zs
  filled limit whole (shapes.known T) zs = sized_as T (first_value limit whole T) zs
  filled limit whole (shapes.tuple_of ts) zs = tuple_filled (parts_filled limit whole ts zs)
  filled limit whole (shapes.array_of t) zs = by_length zs (filled limit whole t)

  pub parts_filled : ℕ → Span → TypeShapes → List Value → Option SizedParts
  parts_filled limit whole shapes.no_shape zs = Some (record { parts = cl.no_part; first = Good no_value; left = zs })
  parts_filled limit whole (shapes.shape_and t ts) zs = first_part (filled limit whole t zs) (parts_filled limit whole ts)

-- a written type with the values of its expressions alone
abbrev pub sized : ℕ → Span → List Value → Option TypeShape → Option Sized
sized limit whole zs o = option_and_then (λ s. filled limit whole s zs) o

abbrev pub type_of_sized : Option Sized → Option Closed
type_of_sized o = option_map (λ (s : Sized). s.type_is) o

-- `as`: a value of the kind of the type, which has to lie in it (D07), as it goes through it
abbrev pub in_type : Span → Closed → Value → Pure Value
in_type span T x = if has x T then Good (viewed T x) else Bad (Faulted D07 span)

abbrev pub of_kind_of : Span → Closed → Value → Pure Value
of_kind_of span T x = if kind_eq (kind_of x) (kind_at T) then in_type span T x else Bad (Stuck WrongKind span)

abbrev pub converted : ℕ → Span → Option TypeShape → List Value → Value → Pure Value
converted limit span o zs x = found_type span (type_of_sized (sized limit span zs o)) >>= λ T. of_kind_of span T x

-- ---- the kind of a written type, which needs the lengths of arrays alone: widths that hold no name that stands for itself

abbrev pub kinds_first : Option Kind → Option Kinds → Option Kinds
kinds_first None rest = None
kinds_first (Some k) rest = option_map (λ ks. one_more k ks) rest

abbrev pub all_kinds : List (TypeExpr × Option Kind) → Option Kinds
all_kinds [] = Some no_kind
all_kinds (t ∷ ts) = kinds_first t.1 (all_kinds ts)

abbrev pub array_kind : Option ℤ → Option Kind → Option Kind
array_kind (Some (pos n)) (Some k) = Some (arrays n k)
array_kind o k = None

abbrev pub kind_layer : Named → Polynomials → ex.TypeExpr-F (Bitfield × Unread) (ConstraintPart × Unread) (Expr × Unread) (FieldValue × Unread) (Pattern × Unread) (Slice × Unread) (TypeExpr × Option Kind) → Option Kind
kind_layer types f (ex.IntegerType span ps) = Some integers
kind_layer types f (ex.BooleanType span) = Some booleans
kind_layer types f (ex.BitType span) = Some bitvectors
kind_layer types f (ex.NamedType span name) = option_map kind_at (types name)
kind_layer types f (ex.BitsType span e fs) = Some bitvectors
kind_layer types f (ex.TupleType span ts) = option_map tuples (all_kinds ts)
kind_layer types f (ex.ArrayType span e t) = array_kind (option_and_then constant_value (polynomial e.0 f)) t.1

abbrev pub kind_written : Named → Polynomials → TypeExpr → Option Kind
kind_written types f = para-TypeExpr Unread Unread Unread Unread Unread Unread (Option Kind) (λ _. tt) (λ _. tt) (λ _. tt) (λ _. tt) (λ _. tt) (λ _. tt) (kind_layer types f)
