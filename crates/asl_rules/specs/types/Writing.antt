-- Written types: the type in a scope, with its shape and the trees of the expressions in it.
use Rattle.std.specs.Prelude.{ℕ, ℤ, pos, negsuc, nat_le, nat_lt, Bool, true, false, ◌&&◌, ◌||◌, not, if◌then◌else◌, List, [], ◌∷◌, ◌++◌, length, Option, Some, None, Result, Ok}
use Rattle.asl_syn.specs.declared.token.Span.{Span}
use Rattle.asl_syn.specs.declared.code.Fault.{Fault}
use Rattle.asl_syn.specs.declared.code.StaticCode.TheVariants.{T02, T05, T15, T16, T19, T20}
use Rattle.asl_syn.specs.declared.tree.Ident.{Ident}
use Rattle.asl_poly.specs.Terms.{Polynomial}
use Rattle.asl_poly.specs.Poly.{constant_value}
use Rattle.asl_cons.specs.declared.Part.{Part}
use Rattle.asl_cons.specs.declared.End.TheVariants.{Int}
use Rattle.asl_cons.specs.Arithmetic as cons
use Rattle.asl_rules.specs.declared.effect.Effect.{Effect}
use Rattle.asl_rules.specs.Faults.{◌>>=◌, ◌>>◌, need, found_or}
use Rattle.asl_rules.specs.types.Types.{Ty, Parts, View, BitField, integer_of, bits_of, tuple_of, array_of, no_part, part, same_kind}
use Rattle.asl_rules.specs.types.Closed.{closed}
use Rattle.asl_rules.specs.types.Shapes as shape
use Rattle.asl_rules.specs.types.Shapes.{PartShape, BitfieldShape, TypeShape, TypeShapes, only, from_to, one_place, many_places, no_shape, shape_and}
use Rattle.asl_rules.specs.runs.Trees as tree
use Rattle.asl_rules.specs.runs.Trees.{Tree}
use Rattle.asl_rules.specs.declarations.Scopes.{Scope, type_of_name}
use Rattle.asl_rules.specs.types.Widths.{bounded, length_of}
use Rattle.asl_rules.specs.expressions.Typing.{Found, Typed, in_class, trees_from}
use Rattle.asl_rules.specs.values.Members.{has_name}

-- ---- what is found at the parts of a type

-- a part of a constraint
pub record WrittenPart : Type 0 where
  pub part : Part
  pub shape : PartShape
  pub trees : List Tree

abbrev pub FoundPart : Type 0
FoundPart = Scope → Result WrittenPart Fault

-- an end of a bitfield with its place
pub record WrittenEnd : Type 0 where
  pub span : Span
  pub width : Polynomial
  pub tree : Tree

-- a bitfield
pub record WrittenField : Type 0 where
  pub name : List ℕ
  pub high : WrittenEnd
  pub low : WrittenEnd
  pub shape : BitfieldShape
  pub trees : List Tree

abbrev pub FoundBitfield : Type 0
FoundBitfield = Scope → Result WrittenField Fault

-- a type with its shape and the trees of its expressions
pub record Written : Type 0 where
  pub ty : Ty
  pub shape : TypeShape
  pub sizes : List Tree

abbrev pub written_as : Ty → TypeShape → List Tree → Written
written_as T s ts = record { ty = T; shape = s; sizes = ts }

-- what is found at a written type: the type in a scope, outside bodies with the limits of widths there
pub record FoundType : Type 0 where
  pub span : Span
  pub ty : Bool → Scope → Result Written Fault

-- ---- integers

-- a part from one end to another: widths where one of them names an atom, else 128-bit integers
abbrev pub range_of_widths : Found → Found → Scope → Result WrittenPart Fault
range_of_widths a b G =
    a.width G >>= λ p. b.width G >>= λ q.
    Ok (record { part = cons.part (cons.shown p.poly) (cons.shown q.poly); shape = from_to; trees = p.tree ∷ q.tree ∷ [] })

abbrev pub range_of_numbers : Found → Found → Scope → Result WrittenPart Fault
range_of_numbers a b G =
    a.number G >>= λ y. b.number G >>= λ z. Ok (record { part = cons.part (Int y.number) (Int z.number); shape = from_to; trees = y.tree ∷ z.tree ∷ [] })

abbrev pub range_rule : Found → Found → Scope → Result WrittenPart Fault
range_rule a b G = if a.has_atom G || b.has_atom G then range_of_widths a b G else range_of_numbers a b G

abbrev pub one_width : Found → Scope → Result WrittenPart Fault
one_width e G = e.width G >>= λ p. Ok (record { part = cons.part (cons.shown p.poly) (cons.shown p.poly); shape = only; trees = p.tree ∷ [] })

abbrev pub one_number : Found → Scope → Result WrittenPart Fault
one_number e G = e.number G >>= λ z. Ok (record { part = cons.part (Int z.number) (Int z.number); shape = only; trees = z.tree ∷ [] })

abbrev pub only_rule : Found → Scope → Result WrittenPart Fault
only_rule e G = if e.has_atom G then one_width e G else one_number e G

abbrev pub all_parts : List FoundPart → Scope → Result (List WrittenPart) Fault
all_parts [] G = Ok []
all_parts (p ∷ ps) G = p G >>= λ q. all_parts ps G >>= λ qs. Ok (q ∷ qs)

abbrev pub parts_written : List WrittenPart → List Part
parts_written [] = []
parts_written (p ∷ ps) = p.part ∷ parts_written ps

abbrev pub part_shapes : List WrittenPart → List PartShape
part_shapes [] = []
part_shapes (p ∷ ps) = p.shape ∷ part_shapes ps

abbrev pub part_trees : List WrittenPart → List Tree
part_trees [] = []
part_trees (p ∷ ps) = p.trees ++ part_trees ps

-- the most parts of a constraint
unfoldable pub most_parts : ℕ
most_parts = 64

abbrev pub integer_written : Span → List WrittenPart → Result Written Fault
integer_written span ps =
    need (nat_le (length ps) most_parts) T20 span >> Ok (written_as (integer_of (parts_written ps)) (shape.integer_of (part_shapes ps)) (part_trees ps))

abbrev pub integer_rule : Span → List FoundPart → Scope → Result Written Fault
integer_rule span ps G = all_parts ps G >>= λ qs. integer_written span qs

-- ---- bits

abbrev pub end_rule : Found → Scope → Result WrittenEnd Fault
end_rule e G = e.width G >>= λ p. Ok (record { span = e.span; width = p.poly; tree = p.tree })

abbrev pub one_bit_rule : Found → Ident → Scope → Result WrittenField Fault
one_bit_rule e i G = end_rule e G >>= λ x. Ok (record { name = i.text; high = x; low = x; shape = one_place i.text; trees = x.tree ∷ [] })

abbrev pub bit_range_rule : Found → Found → Ident → Scope → Result WrittenField Fault
bit_range_rule a b i G =
    end_rule a G >>= λ x. end_rule b G >>= λ y. Ok (record { name = i.text; high = x; low = y; shape = many_places i.text; trees = x.tree ∷ y.tree ∷ [] })

abbrev pub all_fields : List FoundBitfield → Scope → Result (List WrittenField) Fault
all_fields [] G = Ok []
all_fields (f ∷ fs) G = f G >>= λ x. all_fields fs G >>= λ xs. Ok (x ∷ xs)

-- a bitfield whose ends are numbers
pub record Numbered : Type 0 where
  pub name : List ℕ
  pub high : ℤ
  pub low : ℤ

abbrev pub all_numbered : List WrittenField → Result (List Numbered) Fault
all_numbered [] = Ok []
all_numbered (f ∷ fs) =
    found_or (constant_value f.high.width) T19 f.high.span >>= λ h.
    found_or (constant_value f.low.width) T19 f.low.span >>= λ l.
    all_numbered fs >>= λ rest. Ok (record { name = f.name; high = h; low = l } ∷ rest)

-- 0 <= low <= high < width
abbrev pub placed_from : ℕ → List ℕ → ℤ → ℤ → Option BitField
placed_from w name (pos h) (pos l) = if nat_le l h && nat_lt h w then Some (record { name = name; high = h; low = l }) else None
placed_from w name h l = None

abbrev pub placed : ℤ → Numbered → Option BitField
placed (pos w) f = placed_from w f.name f.high f.low
placed (negsuc w) f = None

abbrev pub all_placed : Span → ℤ → List Numbered → Result View Fault
all_placed span w [] = Ok []
all_placed span w (f ∷ fs) = found_or (placed w f) T16 span >>= λ x. all_placed span w fs >>= λ xs. Ok (x ∷ xs)

abbrev pub names_once : View → List (List ℕ) → Bool
names_once [] before = true
names_once (f ∷ fs) before = not (has_name f.name before) && names_once fs (before ++ f.name ∷ [])

-- bitfields: the ends are constant, the width is, each lies within it, and the names stand once
abbrev pub view_rule : Span → Polynomial → List WrittenField → Result View Fault
view_rule span w [] = Ok []
view_rule span w (f ∷ fs) =
    all_numbered (f ∷ fs) >>= λ ns.
    found_or (constant_value w) T16 span >>= λ z.
    all_placed span z ns >>= λ view.
    need (names_once view []) T15 span >> Ok view

abbrev pub width_is_held : ℕ → Option ℤ → Bool
width_is_held limit None = true
width_is_held limit (Some (pos n)) = nat_le n limit
width_is_held limit (Some (negsuc n)) = false

-- outside bodies a width lies within 0 and the width limit
abbrev pub within_limits : ℕ → Bool → Polynomial → Bool
within_limits limit false w = true
within_limits limit true w = width_is_held limit (constant_value w)

abbrev pub field_shapes : List WrittenField → List BitfieldShape
field_shapes [] = []
field_shapes (f ∷ fs) = f.shape ∷ field_shapes fs

abbrev pub field_trees : List WrittenField → List Tree
field_trees [] = []
field_trees (f ∷ fs) = f.trees ++ field_trees fs

abbrev pub bits_written : ℕ → Bool → Span → Polynomial → Tree → List WrittenField → Result Written Fault
bits_written limit outside span w width fs =
    view_rule span w fs >>= λ view.
    need (within_limits limit outside w) T20 span >>
    Ok (written_as (bits_of w view) (shape.bits_of span (field_shapes fs)) (width ∷ field_trees fs))

abbrev pub bits_rule : ℕ → Bool → Span → Found → List FoundBitfield → Scope → Result Written Fault
bits_rule limit outside span e fs G = e.width G >>= λ w. all_fields fs G >>= λ xs. bits_written limit outside span w.poly w.tree xs

-- ---- names, tuples, arrays

-- nothing outside bodies has atoms
abbrev pub named_written : Ty → Written
named_written T = written_as T (shape.known (closed T)) []

abbrev pub name_written : Span → List ℕ → Scope → Result Written Fault
name_written span name G = found_or (type_of_name name G.names) T02 span >>= λ T. Ok (named_written T)

abbrev pub types_in_order : Bool → List FoundType → Scope → Result (List Written) Fault
types_in_order outside [] G = Ok []
types_in_order outside (t ∷ ts) G = t.ty outside G >>= λ W. types_in_order outside ts G >>= λ Ws. Ok (W ∷ Ws)

abbrev pub types_written : List Written → Parts
types_written [] = no_part
types_written (W ∷ Ws) = part W.ty (types_written Ws)

abbrev pub type_shapes : List Written → TypeShapes
type_shapes [] = no_shape
type_shapes (W ∷ Ws) = shape_and W.shape (type_shapes Ws)

abbrev pub all_sizes : List Written → List Tree
all_sizes [] = []
all_sizes (W ∷ Ws) = W.sizes ++ all_sizes Ws

abbrev pub tuple_written : Span → List Written → Result Written Fault
tuple_written span Ws = bounded span (tuple_of (types_written Ws)) >>= λ T. Ok (written_as T (shape.tuple_of (type_shapes Ws)) (all_sizes Ws))

abbrev pub array_written : Span → Polynomial → Tree → Written → Result Written Fault
array_written span w length W =
    found_or (constant_value w) T19 span >>= λ z.
    length_of span z >>= λ n. bounded span (array_of n W.ty) >>= λ T. Ok (written_as T (shape.array_of W.shape) (length ∷ W.sizes))

abbrev pub array_rule : Bool → Span → Found → FoundType → Scope → Result Written Fault
array_rule outside span e t G = e.width G >>= λ w. t.ty outside G >>= λ W. array_written span w.poly w.tree W

-- ---- conversions

-- `as`: the type is of the kind of the value
abbrev pub converted_to : Effect → Span → Typed → Written → Result Typed Fault
converted_to class span S W = need (same_kind S.ty W.ty) T05 span >> in_class class span S.effect W.ty (λ n. tree.As n S.tree W.shape (trees_from W.sizes))

abbrev pub as_rule : Span → Found → FoundType → Scope → Result Typed Fault
as_rule span a t G = a.typed G >>= λ S. t.ty false G >>= λ W. converted_to G.class span S W
