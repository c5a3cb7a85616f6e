-- The parts of values by their names: fields of records and exceptions, and bitfields; constructions, and elements of arrays.
use Rattle.std.specs.Prelude.{ℕ, suc, ◌+◌, nat_le, Bool, true, false, not, if◌then◌else◌, List, [], ◌∷◌, ◌++◌, Option, Some, None, option_map, Result, Ok}
use Rattle.std.specs.Str.{bytes_eq}
use Rattle.asl_syn.specs.declared.token.Span.{Span}
use Rattle.asl_syn.specs.declared.code.Fault.{Fault}
use Rattle.asl_syn.specs.declared.code.StaticCode.TheVariants.{T02, T05, T08, T15, T20}
use Rattle.asl_syn.specs.declared.tree.Ident.{Ident}
use Rattle.asl_rules.specs.declared.effect.Effect.{Effect}
use Rattle.asl_rules.specs.declared.effect.Effect.TheVariants.{Pure}
use Rattle.asl_rules.specs.Faults.{◌>>=◌, ◌>>◌, need, fault, found_or, fitted}
use Rattle.asl_rules.specs.Tests.{Tests}
use Rattle.asl_rules.specs.types.Types.{Ty, Fields, View, BitField, bitfield_width, integer_of, boolean, bits_of, enumeration_of, record_of, exception_of, tuple_of, array_of, named, no_field, field, is_integer, is_bits, view_of, bits_wide, misfit}
use Rattle.asl_rules.specs.runs.Trees as tree
use Rattle.asl_rules.specs.runs.Trees.{Tree, TreeStep, Shell, FieldGiven, record_shell, exception_shell, into_field, into_bitfield}
use Rattle.asl_rules.specs.types.Effects.{greater, together}
use Rattle.asl_rules.specs.declarations.Layouts.{place_of}
use Rattle.asl_poly.specs.WidthLimits.{heaviest}
use Rattle.asl_rules.specs.expressions.Typing.{Typed, Operand, in_class, finish, finish_all, trees_of}

-- ---- fields and bitfields

-- the fields of a record or an exception
abbrev pub fields_of : Ty → Option Fields
fields_of (record_of name fs) = Some fs
fields_of (exception_of name fs) = Some fs
fields_of (named name supers T) = fields_of T
fields_of (integer_of ps) = None
fields_of boolean = None
fields_of (bits_of w view) = None
fields_of (enumeration_of name labels) = None
fields_of (tuple_of ts) = None
fields_of (array_of n T) = None

-- a part by its name: a field with its number and its type, or a bitfield
pub data Member : Type 0 where
  a_field : ℕ → Ty → Member
  a_bitfield : BitField → Member

abbrev pub member_type : Member → Ty
member_type (a_field n T) = T
member_type (a_bitfield f) = bits_wide (bitfield_width f)

abbrev pub one_further : Option (ℕ × Ty) → Option (ℕ × Ty)
one_further None = None
one_further (Some p) = Some (suc p.0, p.1)

-- a field with its number, from 0
abbrev pub numbered : List ℕ → Fields → Option (ℕ × Ty)
numbered f no_field = None
numbered f (field g T fs) = if bytes_eq g f then Some (0, T) else one_further (numbered f fs)

abbrev pub field_among : Option (ℕ × Ty) → Option Member
field_among None = None
field_among (Some p) = Some (a_field p.0 p.1)

abbrev pub bitfield_in : List ℕ → View → Option BitField
bitfield_in name [] = None
bitfield_in name (f ∷ fs) = if bytes_eq f.name name then Some f else bitfield_in name fs

abbrev pub member_of : Ty → List ℕ → Option Member
member_of (record_of name fs) f = field_among (numbered f fs)
member_of (exception_of name fs) f = field_among (numbered f fs)
member_of (bits_of w view) f = option_map (λ b. a_bitfield b) (bitfield_in f view)
member_of (named name supers T) f = member_of T f
member_of (integer_of ps) f = None
member_of boolean f = None
member_of (enumeration_of name labels) f = None
member_of (tuple_of ts) f = None
member_of (array_of n T) f = None

abbrev pub member_tree : Tree → Member → tree.Note → Tree
member_tree a (a_field i T) n = tree.Field n a i
member_tree a (a_bitfield f) n = tree.Bitfield n a f

abbrev pub member_step : Span → Member → TreeStep
member_step at (a_field i T) = into_field at i
member_step at (a_bitfield f) = into_bitfield at f

-- a bitfield has no more places than the limit of widths
abbrev pub has_room : Member → Bool
has_room (a_field n T) = true
has_room (a_bitfield f) = nat_le (bitfield_width f) heaviest

-- T15 at the name where there is none, and T20 past the limit of widths
abbrev pub member_named : Ident → Ty → Result Member Fault
member_named i T = found_or (member_of T i.text) T15 i.span >>= λ m. need (has_room m) T20 i.span >> Ok m

abbrev pub field_behind : Effect → Span → Ident → Typed → Result Typed Fault
field_behind class span i S = member_named i S.ty >>= λ m. in_class class span S.effect (member_type m) (member_tree S.tree m)

-- bitfields, each of which there is, else T15 at its name
abbrev pub bitfields_in : List Ident → View → Result (List BitField) Fault
bitfields_in [] view = Ok []
bitfields_in (i ∷ is) view = found_or (bitfield_in i.text view) T15 i.span >>= λ f. bitfields_in is view >>= λ fs. Ok (f ∷ fs)

abbrev pub all_wide : List BitField → ℕ
all_wide [] = 0
all_wide (f ∷ fs) = bitfield_width f + all_wide fs

-- of bits alone; T20 past the limit of widths
abbrev pub bitfields_named : Span → List Ident → Ty → Result (List BitField) Fault
bitfields_named span is T = bitfields_in is (view_of T) >>= λ fs. need (is_bits T) T15 span >> need (nat_le (all_wide fs) heaviest) T20 span >> Ok fs

abbrev pub bitfields_behind : Effect → Span → List Ident → Typed → Result Typed Fault
bitfields_behind class span is S =
    bitfields_named span is S.ty >>= λ fs. in_class class span S.effect (bits_wide (all_wide fs)) (λ n. tree.Bitfields n S.tree fs)

-- ---- elements

abbrev pub element_in : Ty → Option Ty
element_in (array_of n T) = Some T
element_in (named name supers T) = element_in T
element_in (integer_of ps) = None
element_in boolean = None
element_in (bits_of w view) = None
element_in (enumeration_of name labels) = None
element_in (record_of name fs) = None
element_in (exception_of name fs) = None
element_in (tuple_of ts) = None

-- the element of an array at an integer, else T08
abbrev pub indexed : Span → Ty → Ty → Result Ty Fault
indexed span S I = found_or (element_in S) T08 span >>= λ T. need (is_integer I) T08 span >> Ok T

abbrev pub element_at : Effect → Span → Typed → Typed → Result Typed Fault
element_at class span S I =
    indexed span S.ty I.ty >>= λ T.
    finish class span (together S.effect I.effect) (greater S.effect I.effect) T (λ n. tree.Element n S.tree I.tree)

-- ---- constructions

-- what is constructed: its type, what it is made by, and its fields
pub record Constructed : Type 0 where
  pub ty : Ty
  pub shell : Shell
  pub fields : Fields

abbrev pub constructed_as : Ty → List ℕ → List (List ℕ) → Ty → Option Constructed
constructed_as T own supers (record_of name fs) = Some (record { ty = T; shell = record_shell name; fields = fs })
constructed_as T own supers (exception_of name fs) = Some (record { ty = T; shell = exception_shell own supers name; fields = fs })
constructed_as T own supers (named name others U) = constructed_as T own supers U
constructed_as T own supers (integer_of ps) = None
constructed_as T own supers boolean = None
constructed_as T own supers (bits_of w view) = None
constructed_as T own supers (enumeration_of name labels) = None
constructed_as T own supers (tuple_of ts) = None
constructed_as T own supers (array_of n U) = None

-- an exception keeps the name that it is built with
abbrev pub constructed_of : Ty → Option Constructed
constructed_of (named name supers T) = constructed_as (named name supers T) name supers T
constructed_of T = constructed_as T [] [] T

-- the type that a construction names
abbrev pub constructed : Ident → Option Ty → Result Constructed Fault
constructed i None = fault T02 i.span
constructed i (Some T) = found_or (constructed_of T) T05 i.span

abbrev pub has_name : List ℕ → List (List ℕ) → Bool
has_name f [] = false
has_name f (n ∷ ns) = if bytes_eq n f then true else has_name f ns

-- each name is one of the fields, and stands once: the types of those fields
abbrev pub given_once : List Ident → List (List ℕ) → Fields → Result (List Ty) Fault
given_once [] before fs = Ok []
given_once (i ∷ is) before fs =
    need (not (has_name i.text before)) T15 i.span >>
    found_or (numbered i.text fs) T15 i.span >>= λ p.
    given_once is (before ++ i.text ∷ []) fs >>= λ Ts. Ok (p.1 ∷ Ts)

-- each value fits the field
abbrev pub all_fit : Tests → List Operand → List Ty → Result (Unit {0}) Fault
all_fit t (o ∷ os) (T ∷ Ts) = fitted (misfit t o.typed.ty T) o.span >> all_fit t os Ts
all_fit t os Ts = Ok tt

abbrev pub texts_of : List Ident → List (List ℕ)
texts_of [] = []
texts_of (i ∷ is) = i.text ∷ texts_of is

abbrev pub with_place : List ℕ → Ty → Option ℕ → Option (List FieldGiven) → Option (List FieldGiven)
with_place f T (Some i) (Some gs) = Some (record { name = f; ty = T; place = i } ∷ gs)
with_place f T None gs = None
with_place f T (Some i) None = None

-- each field of a type with the place of its value among those of these names, where none is missing
abbrev pub places_given : Fields → List (List ℕ) → Option (List FieldGiven)
places_given no_field names = Some []
places_given (field f T fs) names = with_place f T (place_of f names) (places_given fs names)

-- a construction by its name, of values with these names
abbrev pub construction : Tests → Effect → Span → Ident → Option Ty → List Ident → List Operand → Result Typed Fault
construction t class span i o is os =
    constructed i o >>= λ c.
    given_once is [] c.fields >>= λ Ts.
    all_fit t os Ts >>
    found_or (places_given c.fields (texts_of is)) T15 span >>= λ gs.
    finish_all class span os Pure c.ty (λ n. tree.Construct n c.shell gs (trees_of os))
