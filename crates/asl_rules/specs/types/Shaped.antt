-- Slices, patterns and written types taken apart: what they are without the expressions in them, and these in order. One reading
-- serves trees and what stands for parts of trees.
use Rattle.std.specs.Prelude.{ℕ, List, [], ◌∷◌, ◌++◌, Option, Some, None, option_map}
use Rattle.asl_syn.specs.declared.tree.Bitfield.{Bitfield, out-Bitfield}
use Rattle.asl_syn.specs.declared.tree.ConstraintPart.{ConstraintPart, out-ConstraintPart}
use Rattle.asl_syn.specs.declared.tree.Expr.{Expr}
use Rattle.asl_syn.specs.declared.tree.FieldValue.{FieldValue, out-FieldValue}
use Rattle.asl_syn.specs.declared.tree.Pattern.{Pattern}
use Rattle.asl_syn.specs.declared.tree.Slice.{Slice, out-Slice}
use Rattle.asl_syn.specs.declared.tree.TypeExpr.{TypeExpr}
use Rattle.asl_syn.specs.declared.tree.Bitfield.TheOpen as ex
use Rattle.asl_syn.specs.declared.tree.Bitfield.TheFolds.{para-Pattern, para-TypeExpr}
use Rattle.asl_rules.specs.types.Closed.{Closed}
use Rattle.asl_rules.specs.values.Vectors.{literal_digits}
use Rattle.asl_rules.specs.types.Shapes as shapes
use Rattle.asl_rules.specs.types.Shapes.{SliceShape, PatternShape, PatternShapes, PartShape, BitfieldShape, TypeShape, TypeShapes}

-- a part of a tree without its expressions, and these
pub record Shaped (A E : Type 0) : Type 0 where
  pub shape : A
  pub exprs : List E

-- what declared names stand for
abbrev pub Named : Type 0
Named = List ℕ → Option Closed

-- a written type has a shape where its names are known
abbrev pub TypeOver : Type 0
TypeOver = Named → Option TypeShape

abbrev pub exprs_in : {A E X : Type 0} → (X → Shaped A E) → List X → List E
exprs_in f [] = []
exprs_in f (x ∷ xs) = (f x).exprs ++ exprs_in f xs

abbrev pub shapes_in : {A E X : Type 0} → (X → Shaped A E) → List X → List A
shapes_in f [] = []
shapes_in f (x ∷ xs) = (f x).shape ∷ shapes_in f xs

abbrev pub itself : {A : Type 0} → A → A
itself x = x

-- ---- the fields of constructions, each with its name and one expression

abbrev pub given_layer : {B I F L P T X E : Type 0} → (X → E) → ex.FieldValue-F B I X F P L T → Shaped (List ℕ) E
given_layer e (ex.Given i a) = record { shape = i.text; exprs = e a ∷ [] }

abbrev pub given_parts : FieldValue → Shaped (List ℕ) Expr
given_parts f = given_layer itself (out-FieldValue f)

-- ---- slices

abbrev pub slice_layer : {B I F L P T X E : Type 0} → (X → E) → ex.Slice-F B I X F P L T → Shaped SliceShape E
slice_layer e (ex.BitAt i) = record { shape = shapes.at_bit; exprs = e i ∷ [] }
slice_layer e (ex.HighLow h l) = record { shape = shapes.high_low; exprs = e h ∷ e l ∷ [] }
slice_layer e (ex.LowWidth l w) = record { shape = shapes.low_width; exprs = e l ∷ e w ∷ [] }
slice_layer e (ex.FactorWidth k w) = record { shape = shapes.factor_width; exprs = e k ∷ e w ∷ [] }

abbrev pub slice_parts : Slice → Shaped SliceShape Expr
slice_parts s = slice_layer itself (out-Slice s)

-- ---- patterns

abbrev pub pattern_shapes : List PatternShape → PatternShapes
pattern_shapes [] = shapes.no_pattern
pattern_shapes (p ∷ ps) = shapes.pattern_and p (pattern_shapes ps)

abbrev pub pattern_layer : {B I F L Q T X E : Type 0} → (X → E) → (Q → Shaped PatternShape E) → ex.Pattern-F B I X F Q L T → Shaped PatternShape E
pattern_layer e p (ex.AnyPattern span) = record { shape = shapes.anything; exprs = [] }
pattern_layer e p (ex.SetPattern span negated ps) = record { shape = shapes.one_of negated (pattern_shapes (shapes_in p ps)); exprs = exprs_in p ps }
pattern_layer e p (ex.MaskPattern span t) = record { shape = shapes.masked span (literal_digits t); exprs = [] }
pattern_layer e p (ex.AtMost span a) = record { shape = shapes.at_most span; exprs = e a ∷ [] }
pattern_layer e p (ex.AtLeast span a) = record { shape = shapes.at_least span; exprs = e a ∷ [] }
pattern_layer e p (ex.TuplePattern span ps) = record { shape = shapes.in_parts span (pattern_shapes (shapes_in p ps)); exprs = exprs_in p ps }
pattern_layer e p (ex.ValuePattern span a) = record { shape = shapes.equal_to span; exprs = e a ∷ [] }
pattern_layer e p (ex.RangePattern span a b) = record { shape = shapes.between span; exprs = e a ∷ e b ∷ [] }

abbrev pub Unread : Type 0
Unread = Unit {0}

abbrev pub pattern_parts : Pattern → Shaped PatternShape Expr
pattern_parts = para-Pattern Unread Unread Unread Unread (Shaped PatternShape Expr) Unread Unread (λ _. tt) (λ _. tt) (λ _. tt) (λ _. tt) (pattern_layer (λ (e : Expr × Unread). e.0) (λ (p : Pattern × Shaped PatternShape Expr). p.1)) (λ _. tt) (λ _. tt)

-- the patterns of an alternative
abbrev pub exprs_in_patterns : List Pattern → List Expr
exprs_in_patterns ps = exprs_in pattern_parts ps

abbrev pub shapes_of_patterns : List Pattern → PatternShapes
shapes_of_patterns ps = pattern_shapes (shapes_in pattern_parts ps)

-- ---- written types

abbrev pub part_layer : {B I F L P T X E : Type 0} → (X → E) → ex.ConstraintPart-F B I X F P L T → Shaped PartShape E
part_layer e (ex.Only a) = record { shape = shapes.only; exprs = e a ∷ [] }
part_layer e (ex.FromTo a b) = record { shape = shapes.from_to; exprs = e a ∷ e b ∷ [] }

abbrev pub bitfield_layer : {B I F L P T X E : Type 0} → (X → E) → ex.Bitfield-F B I X F P L T → Shaped BitfieldShape E
bitfield_layer e (ex.OneBit a i) = record { shape = shapes.one_place i.text; exprs = e a ∷ [] }
bitfield_layer e (ex.BitRange h l i) = record { shape = shapes.many_places i.text; exprs = e h ∷ e l ∷ [] }

-- the types of the parts of a tuple, where all are known
abbrev pub first_shape : Option TypeShape → Option TypeShapes → Option TypeShapes
first_shape None rest = None
first_shape (Some t) rest = option_map (λ ts. shapes.shape_and t ts) rest

abbrev pub type_shapes : Named → List TypeOver → Option TypeShapes
type_shapes types [] = Some shapes.no_shape
type_shapes types (t ∷ ts) = first_shape (t types) (type_shapes types ts)

abbrev pub type_layer : {B I F L P U X E : Type 0} → (X → E) → (B → Shaped BitfieldShape E) → (I → Shaped PartShape E) → (U → Shaped TypeOver E) → ex.TypeExpr-F B I X F P L U → Shaped TypeOver E
type_layer e b i t (ex.IntegerType span ps) = record { shape = λ types. Some (shapes.integer_of (shapes_in i ps)); exprs = exprs_in i ps }
type_layer e b i t (ex.BooleanType span) = record { shape = λ types. Some shapes.boolean; exprs = [] }
type_layer e b i t (ex.BitType span) = record { shape = λ types. Some (shapes.one_bit span); exprs = [] }
type_layer e b i t (ex.NamedType span name) = record { shape = λ types. option_map (λ T. shapes.known T) (types name); exprs = [] }
type_layer e b i t (ex.BitsType span w fs) = record { shape = λ types. Some (shapes.bits_of span (shapes_in b fs)); exprs = e w ∷ exprs_in b fs }
type_layer e b i t (ex.TupleType span ts) = record { shape = λ types. option_map (λ ss. shapes.tuple_of ss) (type_shapes types (shapes_in t ts)); exprs = exprs_in t ts }
type_layer e b i t (ex.ArrayType span n u) = record { shape = λ types. option_map (λ s. shapes.array_of s) ((t u).shape types); exprs = e n ∷ (t u).exprs }

abbrev pub bitfield_parts : Bitfield → Shaped BitfieldShape Expr
bitfield_parts b = bitfield_layer itself (out-Bitfield b)

abbrev pub range_parts : ConstraintPart → Shaped PartShape Expr
range_parts p = part_layer itself (out-ConstraintPart p)

abbrev pub type_parts : TypeExpr → Shaped TypeOver Expr
type_parts = para-TypeExpr Unread Unread Unread Unread Unread Unread (Shaped TypeOver Expr) (λ _. tt) (λ _. tt) (λ _. tt) (λ _. tt) (λ _. tt) (λ _. tt)
    (type_layer (λ (e : Expr × Unread). e.0) (λ (b : Bitfield × Unread). bitfield_parts b.0) (λ (p : ConstraintPart × Unread). range_parts p.0) (λ (t : TypeExpr × Shaped TypeOver Expr). t.1))

-- the expressions in a written type, in order
abbrev pub sizes_in : TypeExpr → List Expr
sizes_in t = (type_parts t).exprs

abbrev pub shape_of : Named → TypeExpr → Option TypeShape
shape_of types t = (type_parts t).shape types
