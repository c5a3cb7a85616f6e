-- The type, the effect and the typed tree of an expression, or its one fault. Each row has its conditions in order, each with its code and its place; the typing
-- derivation asks that all hold, and the one fault is the first that fails.
use Rattle.std.specs.Prelude.{ℕ, pos, ◌-ℤ◌, Bool, false, ◌&&◌, ◌||◌, if◌then◌else◌, List, [], ◌∷◌, length, Option, Some, None, Result, Ok}
use Rattle.asl_syn.specs.declared.token.Span.{Span}
use Rattle.asl_syn.specs.declared.code.Fault.{Fault}
use Rattle.asl_syn.specs.declared.code.StaticCode.{StaticCode}
use Rattle.asl_syn.specs.declared.code.StaticCode.TheVariants.{S03, T02, T05, T06, T19, T20}
use Rattle.asl_syn.specs.declared.tree.Expr.{Expr, out-Expr}
use Rattle.asl_syn.specs.declared.tree.Bitfield.TheOpen as ex
use Rattle.asl_syn.specs.declared.tree.Bitfield.TheFolds.{fold-Expr, fold-TypeExpr, fold-Slice, fold-Pattern}
use Rattle.asl_syn.specs.declared.tree.TypeExpr.{TypeExpr}
use Rattle.asl_syn.specs.declared.tree.Slice.{Slice}
use Rattle.asl_syn.specs.declared.tree.Pattern.{Pattern}
use Rattle.asl_syn.specs.declared.tree.UnaryOperator.{UnaryOperator}
use Rattle.asl_syn.specs.declared.tree.UnaryOperator.TheVariants as unary
use Rattle.asl_syn.specs.declared.tree.BinaryOperator.{BinaryOperator}
use Rattle.asl_syn.specs.declared.tree.BinaryOperator.TheVariants as binary
use Rattle.asl_syn.specs.declared.tree.Ident.{Ident}
use Rattle.asl_poly.specs.Poly.{constant_map}
use Rattle.asl_cons.specs.Arithmetic.{fits}
use Rattle.asl_rules.specs.declared.effect.Effect.{Effect}
use Rattle.asl_rules.specs.declared.effect.Effect.TheVariants.{Pure}
use Rattle.asl_rules.specs.Faults.{◌>>=◌, ◌>>◌, need, fault, found_or}
use Rattle.asl_rules.specs.values.Values.{bool, bits_with}
use Rattle.asl_rules.specs.values.Vectors.{literal_digits, literal_of}
use Rattle.asl_rules.specs.Tests.{Tests}
use Rattle.asl_rules.specs.types.Types.{Ty, boolean, tuple_of, is_boolean, is_bits, integer_of, only_number, bits_wide, join, bare}
use Rattle.asl_rules.specs.types.Shapes as shape
use Rattle.asl_rules.specs.runs.Trees as tree
use Rattle.asl_rules.specs.runs.Trees.{Tree}
use Rattle.asl_rules.specs.types.Effects.{all_together, greatest}
use Rattle.asl_rules.specs.declarations.Scopes.{Scope, Standing, Stored, Subprogram, TypeName, Label, standing_of, storage_of, type_of_name, with_class, reading}
use Rattle.asl_rules.specs.declarations.Layouts.{slot_of, layout_of}
use Rattle.asl_rules.specs.declared.joining.Combination.{Combination}
use Rattle.asl_rules.specs.types.Arithmetic.{operator, Reading, literal, named, negated, combined, divided, no_arithmetic, arithmetic, divisor}
use Rattle.asl_rules.specs.types.Widths.{width_of_number, width_of_standing, width_difference, width_combined, width_divided, number_of_standing, number_combined, number_divided, held, storage_has_atom, bounded}
use Rattle.asl_rules.specs.expressions.Typing.{Found, Typed, Width, Number, Operand, width_as, number_as, width_note, in_class, finish, finish_all, operands, types_of, trees_of}
use Rattle.asl_rules.specs.expressions.Operations.{operation, operation_of_two}
use Rattle.asl_rules.specs.values.Members.{construction, field_behind, bitfields_behind, element_at}
use Rattle.asl_rules.specs.expressions.Slicing.{FoundSlice, bit_found, high_low_found, low_width_found, factor_width_found, slices_rule}
use Rattle.asl_rules.specs.types.Writing.{FoundPart, FoundBitfield, FoundType, Written, written_as, range_rule, only_rule, integer_rule, one_bit_rule, bit_range_rule, bits_rule, name_written, types_in_order, tuple_written, array_rule, as_rule}
use Rattle.asl_rules.specs.expressions.Patterns.{FoundPattern, Matched, matched, all_match, set_matched, mask_matched, end_matched, value_matched, range_matched, pure_typed, tuple_pattern_rule, in_rule}
use Rattle.asl_rules.specs.expressions.Calls.{function_rule}

-- what is found at a field of a construction
pub record FoundField : Type 0 where
  pub name : Ident
  pub value : Found

-- ---- literals and names

-- the type of an integer literal: its number alone, and any integer where it isn't within 128 bits
abbrev pub literal_type : ℕ → Ty
literal_type n = integer_of (if fits (pos n) then only_number (pos n) else [])

abbrev pub bits_literal : Effect → Span → List Bool → Result Typed Fault
bits_literal class span bs = in_class class span Pure (bits_wide (length bs)) (λ n. tree.Constant n (bits_with bs []))

-- a literal of bits has a number at each digit
abbrev pub bits_rule_of : Effect → Span → Option (List Bool) → Result Typed Fault
bits_rule_of class span o = found_or o S03 span >>= λ bs. bits_literal class span bs

-- a name: storage or a label
abbrev pub name_of_standing : Span → List ℕ → Option Standing → Scope → Result Typed Fault
name_of_standing span name None G = fault T02 span
name_of_standing span name (Some (Stored s)) G = in_class G.class span (reading s) s.ty (λ n. tree.Read n (slot_of name (layout_of G.names)))
name_of_standing span name (Some Subprogram) G = fault T02 span
name_of_standing span name (Some (TypeName T)) G = fault T02 span
name_of_standing span name (Some (Label T x)) G = in_class G.class span Pure T (λ n. tree.Constant n x)

abbrev pub name_rule : Span → List ℕ → Scope → Result Typed Fault
name_rule span name G = name_of_standing span name (standing_of name G.names) G

-- ---- operations

abbrev pub operation_rule : Span → UnaryOperator → Found → Scope → Result Typed Fault
operation_rule span o a G = a.typed G >>= λ S. operation G.class span o S

abbrev pub operation_rule_of_two : Tests → Span → BinaryOperator → Found → Found → Scope → Result Typed Fault
operation_rule_of_two t span o a b G = a.typed G >>= λ S. b.typed G >>= λ T. operation_of_two t G.class span o S T

-- ---- conditional expressions, tuples

-- the code where two types have no join
abbrev pub apart : Ty → Ty → StaticCode
apart S T = if is_bits S && is_bits T then T06 else T05

-- either of two, under a condition that stands at this place
abbrev pub conditional_of : Tests → Effect → Span → Span → Typed → Typed → Typed → Result Typed Fault
conditional_of t class span at C S T =
    need (is_boolean C.ty) T05 at >>
    found_or (join t S.ty T.ty) (apart S.ty T.ty) span >>= λ U.
    finish class span (all_together Pure (C.effect ∷ S.effect ∷ T.effect ∷ [])) (greatest Pure (C.effect ∷ S.effect ∷ T.effect ∷ [])) (bare U)
    (λ n. tree.Conditional n C.tree S.tree T.tree)

abbrev pub conditional_rule : Tests → Span → Found → Found → Found → Scope → Result Typed Fault
conditional_rule t span c a b G = c.typed G >>= λ C. a.typed G >>= λ S. b.typed G >>= λ T. conditional_of t G.class span c.span C S T

abbrev pub tuple_with : Effect → Span → List Operand → Result Typed Fault
tuple_with class span os = bounded span (tuple_of (types_of os)) >>= λ T. finish_all class span os Pure T (λ n. tree.Tuple n (trees_of os))

abbrev pub tuple_rule : Span → List Found → Scope → Result Typed Fault
tuple_rule span es G = operands es G >>= λ os. tuple_with G.class span os

-- ---- parts by their names

abbrev pub values_given : List FoundField → List Found
values_given [] = []
values_given (g ∷ gs) = g.value ∷ values_given gs

abbrev pub names_given : List FoundField → List Ident
names_given [] = []
names_given (g ∷ gs) = g.name ∷ names_given gs

abbrev pub construct_rule : Tests → Span → Ident → List FoundField → Scope → Result Typed Fault
construct_rule t span i gs G = operands (values_given gs) G >>= λ os. construction t G.class span i (type_of_name i.text G.names) (names_given gs) os

abbrev pub field_rule : Span → Found → Ident → Scope → Result Typed Fault
field_rule span a i G = a.typed G >>= λ S. field_behind G.class span i S

abbrev pub bitfields_rule : Span → Found → List Ident → Scope → Result Typed Fault
bitfields_rule span a is G = a.typed G >>= λ S. bitfields_behind G.class span is S

abbrev pub element_rule : Span → Found → Found → Scope → Result Typed Fault
element_rule span a i G = a.typed G >>= λ S. i.typed G >>= λ I. element_at G.class span S I

-- ---- all expressions

-- where an expression stands
abbrev pub span_of : {B I E F P L T : Type 0} → ex.Expr-F B I E F P L T → Span
span_of (ex.Int span n) = span
span_of (ex.Bits span t) = span
span_of (ex.Bool span b) = span
span_of (ex.Name span t) = span
span_of (ex.Unary span o a) = span
span_of (ex.Binary span o a b) = span
span_of (ex.Conditional span c a b) = span
span_of (ex.Tuple span xs) = span
span_of (ex.Construct span i fs) = span
span_of (ex.Call span i ps xs) = span
span_of (ex.Field span a i) = span
span_of (ex.Fields span a iss) = span
span_of (ex.Slices span a ss) = span
span_of (ex.Element span a i) = span
span_of (ex.As span a t) = span
span_of (ex.In span a p) = span

abbrev pub expr_span : Expr → Span
expr_span e = span_of (out-Expr e)

abbrev pub ExprOf : Type 0
ExprOf = ex.Expr-F FoundBitfield FoundPart Found FoundField FoundPattern FoundSlice FoundType

abbrev pub typed_rule : Tests → ExprOf → Scope → Result Typed Fault
typed_rule t (ex.Int span n) G = in_class G.class span Pure (literal_type n) (λ m. tree.Int m n)
typed_rule t (ex.Bits span text) G = bits_rule_of G.class span (literal_of t.limit text)
typed_rule t (ex.Bool span b) G = in_class G.class span Pure boolean (λ n. tree.Constant n (bool b))
typed_rule t (ex.Name span name) G = name_rule span name G
typed_rule t (ex.Unary span o a) G = operation_rule span o a G
typed_rule t (ex.Binary span o a b) G = operation_rule_of_two t span o a b G
typed_rule t (ex.Conditional span c a b) G = conditional_rule t span c a b G
typed_rule t (ex.Tuple span es) G = tuple_rule span es G
typed_rule t (ex.Construct span i gs) G = construct_rule t span i gs G
typed_rule t (ex.Call span i ps es) G = function_rule t span i ps es G
typed_rule t (ex.Field span a i) G = field_rule span a i G
typed_rule t (ex.Fields span a iss) G = bitfields_rule span a iss G
typed_rule t (ex.Slices span a ss) G = slices_rule span a ss G
typed_rule t (ex.Element span a i) G = element_rule span a i G
typed_rule t (ex.As span a T) G = as_rule span a T G
typed_rule t (ex.In span a p) G = in_rule span a p G

-- ---- widths

abbrev pub name_read : Span → List ℕ → Scope → Tree
name_read span name G = tree.Read (width_note span) (slot_of name (layout_of G.names))

abbrev pub negative_tree : Span → Tree → Tree
negative_tree span p = tree.Unary (width_note span) unary.Negate p

abbrev pub combined_tree : Span → Combination → Tree → Tree → Tree
combined_tree span o p q = tree.Binary (width_note span) (operator o) p q

abbrev pub divided_tree : Span → Tree → Span → ℕ → Tree
divided_tree span p at k = tree.Binary (width_note span) binary.DivideExact p (tree.Int (width_note at) k)

-- the polynomial of a width expression
abbrev pub width_of : Span → Reading Found → Scope → Result Width Fault
width_of span (literal n) G = width_of_number span (pos n) >>= λ p. Ok (width_as p (tree.Int (width_note span) n))
width_of span (named name) G = width_of_standing span (standing_of name G.names) >>= λ p. Ok (width_as p (name_read span name G))
width_of span (negated a) G = a.width G >>= λ p. width_difference span (constant_map (pos 0)) p.poly >>= λ r. Ok (width_as r (negative_tree span p.tree))
width_of span (combined o a b) G = a.width G >>= λ p. b.width G >>= λ q. width_combined span o p.poly q.poly >>= λ r. Ok (width_as r (combined_tree span o p.tree q.tree))
width_of span (divided a b) G = a.width G >>= λ p. found_or b.divisor T19 span >>= λ k. width_divided span p.poly k >>= λ r. Ok (width_as r (divided_tree span p.tree b.span k))
width_of span no_arithmetic G = fault T19 span

-- the number of a width expression that names no atom
abbrev pub number_of : Span → Reading Found → Scope → Result Number Fault
number_of span (literal n) G = need (fits (pos n)) T20 span >> Ok (number_as (pos n) (tree.Int (width_note span) n))
number_of span (named name) G = number_of_standing span (standing_of name G.names) >>= λ z. Ok (number_as z (name_read span name G))
number_of span (negated a) G = a.number G >>= λ z. held span (pos 0 -ℤ z.number) >>= λ n. Ok (number_as n (negative_tree span z.tree))
number_of span (combined o a b) G = a.number G >>= λ y. b.number G >>= λ z. number_combined span o y.number z.number >>= λ n. Ok (number_as n (combined_tree span o y.tree z.tree))
number_of span (divided a b) G = a.number G >>= λ z. found_or b.divisor T19 span >>= λ k. number_divided span z.number k >>= λ n. Ok (number_as n (divided_tree span z.tree b.span k))
number_of span no_arithmetic G = fault T19 span

-- whether a width expression names an atom, the texts that `let`s stand for included
abbrev pub names_atom : Reading Found → Scope → Bool
names_atom (literal n) G = false
names_atom (named name) G = storage_has_atom (storage_of name G.names)
names_atom (negated a) G = a.has_atom G
names_atom (combined o a b) G = a.has_atom G || b.has_atom G
names_atom (divided a b) G = a.has_atom G || b.has_atom G
names_atom no_arithmetic G = false

-- ---- each node

abbrev pub width_rule : ExprOf → Scope → Result Width Fault
width_rule layer = width_of (span_of layer) (arithmetic layer)

abbrev pub number_rule : ExprOf → Scope → Result Number Fault
number_rule layer = number_of (span_of layer) (arithmetic layer)

abbrev pub atom_rule : ExprOf → Scope → Bool
atom_rule layer = names_atom (arithmetic layer)

abbrev pub expr_rule : Tests → ExprOf → Found
expr_rule t layer = record {
  span = span_of layer;
  typed = typed_rule t layer;
  width = width_rule layer;
  number = number_rule layer;
  has_atom = atom_rule layer;
  divisor = divisor (arithmetic layer);
}

abbrev pub given_rule : ex.FieldValue-F FoundBitfield FoundPart Found FoundField FoundPattern FoundSlice FoundType → FoundField
given_rule (ex.Given i e) = record { name = i; value = e }

abbrev pub slice_rule : ex.Slice-F FoundBitfield FoundPart Found FoundField FoundPattern FoundSlice FoundType → FoundSlice
slice_rule (ex.BitAt e) = bit_found e
slice_rule (ex.HighLow a b) = high_low_found a b
slice_rule (ex.LowWidth a b) = low_width_found a b
slice_rule (ex.FactorWidth a b) = factor_width_found a b

abbrev pub part_rule : ex.ConstraintPart-F FoundBitfield FoundPart Found FoundField FoundPattern FoundSlice FoundType → FoundPart
part_rule (ex.Only e) G = only_rule e G
part_rule (ex.FromTo a b) G = range_rule a b G

abbrev pub bitfield_rule : ex.Bitfield-F FoundBitfield FoundPart Found FoundField FoundPattern FoundSlice FoundType → FoundBitfield
bitfield_rule (ex.OneBit e i) G = one_bit_rule e i G
bitfield_rule (ex.BitRange a b i) G = bit_range_rule a b i G

abbrev pub TypeOf : Type 0
TypeOf = ex.TypeExpr-F FoundBitfield FoundPart Found FoundField FoundPattern FoundSlice FoundType

abbrev pub type_span : TypeOf → Span
type_span (ex.IntegerType span parts) = span
type_span (ex.BooleanType span) = span
type_span (ex.BitType span) = span
type_span (ex.NamedType span name) = span
type_span (ex.BitsType span width fields) = span
type_span (ex.TupleType span ts) = span
type_span (ex.ArrayType span e t) = span

abbrev pub written_rule : Tests → TypeOf → Bool → Scope → Result Written Fault
written_rule t (ex.IntegerType span parts) outside G = integer_rule span parts G
written_rule t (ex.BooleanType span) outside G = Ok (written_as boolean shape.boolean [])
written_rule t (ex.BitType span) outside G = Ok (written_as (bits_wide 1) (shape.one_bit span) [])
written_rule t (ex.NamedType span name) outside G = name_written span name G
written_rule t (ex.BitsType span width fields) outside G = bits_rule t.limit outside span width fields G
written_rule t (ex.TupleType span ts) outside G = types_in_order outside ts G >>= λ Ws. tuple_written span Ws
written_rule t (ex.ArrayType span e ty) outside G = array_rule outside span e ty G

abbrev pub type_rule : Tests → TypeOf → FoundType
type_rule t layer = record { span = type_span layer; ty = written_rule t layer }

abbrev pub PatternOf : Type 0
PatternOf = ex.Pattern-F FoundBitfield FoundPart Found FoundField FoundPattern FoundSlice FoundType

-- a pattern against a type, its expressions being Pure
abbrev pub pattern_rule : Tests → PatternOf → FoundPattern
pattern_rule t (ex.AnyPattern span) T G = Ok (matched shape.anything [])
pattern_rule t (ex.SetPattern span b ps) T G = all_match ps T G >>= λ ms. Ok (set_matched b ms)
pattern_rule t (ex.MaskPattern span text) T G = mask_matched t span (literal_digits text) T
pattern_rule t (ex.AtMost span e) T G = pure_typed e G >>= λ S. end_matched span (shape.at_most span) T S
pattern_rule t (ex.AtLeast span e) T G = pure_typed e G >>= λ S. end_matched span (shape.at_least span) T S
pattern_rule t (ex.TuplePattern span ps) T G = tuple_pattern_rule span ps T G
pattern_rule t (ex.ValuePattern span e) T G = pure_typed e G >>= λ S. value_matched t span T S
pattern_rule t (ex.RangePattern span a b) T G = pure_typed a G >>= λ S. pure_typed b G >>= λ U. range_matched span T S U

-- ---- trees

abbrev pub found : Tests → Expr → Found
found t = fold-Expr FoundBitfield FoundPart Found FoundField FoundPattern FoundSlice FoundType bitfield_rule part_rule (expr_rule t) given_rule (pattern_rule t) slice_rule (type_rule t)

abbrev pub found_type : Tests → TypeExpr → FoundType
found_type t = fold-TypeExpr FoundBitfield FoundPart Found FoundField FoundPattern FoundSlice FoundType bitfield_rule part_rule (expr_rule t) given_rule (pattern_rule t) slice_rule (type_rule t)

abbrev pub found_slice : Tests → Slice → FoundSlice
found_slice t = fold-Slice FoundBitfield FoundPart Found FoundField FoundPattern FoundSlice FoundType bitfield_rule part_rule (expr_rule t) given_rule (pattern_rule t) slice_rule (type_rule t)

abbrev pub found_pattern : Tests → Pattern → FoundPattern
found_pattern t = fold-Pattern FoundBitfield FoundPart Found FoundField FoundPattern FoundSlice FoundType bitfield_rule part_rule (expr_rule t) given_rule (pattern_rule t) slice_rule (type_rule t)

-- an expression has a type, an effect and a tree in a scope
abbrev pub typed : Tests → Expr → Scope → Result Typed Fault
typed t e G = (found t e).typed G

-- what an expression is as a width
abbrev pub width : Tests → Expr → Scope → Result Width Fault
width t e G = (found t e).width G

-- the type that is written
abbrev pub written : Tests → TypeExpr → Bool → Scope → Result Written Fault
written t ty outside G = (found_type t ty).ty outside G

-- a pattern fits a type
abbrev pub matches : Tests → Pattern → Ty → Scope → Result Matched Fault
matches t p T G = found_pattern t p T (with_class G Pure)
