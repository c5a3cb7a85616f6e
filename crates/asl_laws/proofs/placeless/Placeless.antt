-- Where each name stands for the same, expressions and written types are judged the same, wherever the names have their places.
use Rattle.std.proofs.Common.{◌≡◌, pos, ◌||◌, List, [], ◌∷◌, map, length, Ok, Err, refl, sym, ap, ap₂}
use Rattle.std.specs.Prelude.{Result, Bool}
use Rattle.asl_syn.specs.declared.token.Span.{Span}
use Rattle.asl_syn.specs.declared.code.Fault.{Fault}
use Rattle.asl_syn.specs.declared.code.StaticCode.TheVariants.{S03, T19, T20}
use Rattle.asl_syn.specs.declared.tree.UnaryOperator.{UnaryOperator}
use Rattle.asl_syn.specs.declared.tree.UnaryOperator.TheVariants as unary
use Rattle.asl_syn.specs.declared.tree.Expr.{Expr}
use Rattle.asl_syn.specs.declared.tree.TypeExpr.{TypeExpr}
use Rattle.asl_syn.specs.declared.tree.Bitfield.TheOpen as ex
use Rattle.asl_cons.specs.Arithmetic.{fits}
use Rattle.asl_rules.specs.declared.effect.Effect.{Effect}
use Rattle.asl_rules.specs.declared.effect.Effect.TheVariants.{Pure}
use Rattle.asl_rules.specs.declared.joining.Joining.{Joining}
use Rattle.asl_rules.specs.declared.joining.Joining.TheVariants.{Combines, Divides, JoinsNothing}
use Rattle.asl_rules.specs.Faults.{fault_of, found_or, need}
use Rattle.asl_rules.specs.Tests.{Tests}
use Rattle.asl_rules.specs.types.Types.{boolean, bits_wide}
use Rattle.asl_rules.specs.types.Shapes as shape
use Rattle.asl_rules.specs.types.Arithmetic.{joining, reading_of_two}
use Rattle.asl_rules.specs.types.Widths.{width_of_number}
use Rattle.asl_rules.specs.types.Writing.{Written, FoundPart, FoundBitfield, FoundType, written_as}
use Rattle.asl_rules.specs.values.Values.{bool, bits_with}
use Rattle.asl_rules.specs.values.Vectors.{literal_digits, literal_of}
use Rattle.asl_rules.specs.runs.Trees as tree
use Rattle.asl_rules.specs.declarations.Scopes.{Entry, Scope, Signature}
use Rattle.asl_rules.specs.declarations.UsedNames.{Use, Uses, Each, expr_uses, type_uses}
use Rattle.asl_rules.specs.expressions.Typing.{Found, Typed, Width, width_as, number_as, width_note}
use Rattle.asl_rules.specs.expressions.Slicing.{FoundSlice}
use Rattle.asl_rules.specs.expressions.Patterns.{FoundPattern, matched}
use Rattle.asl_rules.specs.expressions.Exprs.{literal_type, FoundField, found, found_type, typed_rule, width_of, number_of, names_atom}
use Rattle.asl_rules.specs.expressions.Exprs.{width_rule, number_rule, atom_rule, written_rule, expr_rule, given_rule, slice_rule}
use Rattle.asl_rules.specs.expressions.Exprs.{part_rule}
use Rattle.asl_rules.specs.expressions.Exprs.{bitfield_rule, type_rule, pattern_rule}
use Rattle.asl_laws.specs.Placeless.{StandSame, TypedAlike, WidthAlike, WrittenAlike, JudgesSame}
use Rattle.asl_laws.proofs.basics.Lists.{AllOf}
use Rattle.asl_laws.proofs.names.ByUses as by_uses
use Rattle.asl_laws.proofs.placeless.Alike.{Alike, alike_ok, alike_err, step, after, Same, Both, in_class_alike}
use Rattle.asl_laws.proofs.placeless.AlikeRules.{SameWidths, SameNumbers, SameWritten, TypedSame, WidthSame, OperandsSame, AddsSame}
use Rattle.asl_laws.proofs.placeless.AlikeRules.{GivenSame, PartSame, BitfieldSame, WrittenSame, PatternSame, first, second}
use Rattle.asl_laws.proofs.placeless.AlikeRules.{name_alike, unary_alike, binary_alike, conditional_alike, tuple_alike, construct_alike}
use Rattle.asl_laws.proofs.placeless.AlikeRules.{field_alike, bitfields_alike, element_alike, name_width, name_number, name_atom}
use Rattle.asl_laws.proofs.placeless.AlikeRules.{negated_width, negated_number, combined_width, combined_number, divided_width}
use Rattle.asl_laws.proofs.placeless.AlikeRules.{divided_number, call_alike, bit_operands, bit_adds, high_low_operands, high_low_adds}
use Rattle.asl_laws.proofs.placeless.AlikeRules.{low_width_operands, low_width_adds, factor_width_operands, factor_width_adds}
use Rattle.asl_laws.proofs.placeless.AlikeRules.{slices_alike, set_alike, tuple_pattern_alike, mask_alike, end_alike, value_alike}
use Rattle.asl_laws.proofs.placeless.AlikeRules.{range_alike, in_alike, range_part, only_part, integer_alike, one_bit_alike}
use Rattle.asl_laws.proofs.placeless.AlikeRules.{bit_range_alike, bits_alike, named_alike, tuple_written_alike, array_alike, as_alike}

-- ---- answers

typed_alike : (r s : Result Typed Fault) → Alike Same r s → TypedAlike r s
unfolding Alike
typed_alike (Ok S) (Ok T) h = (sym (ap (λ (z : Typed). z.ty) h), sym (ap (λ (z : Typed). z.effect) h))
typed_alike (Ok S) (Err f) h = h
typed_alike (Err f) (Ok T) h = h
typed_alike (Err f) (Err g) h = h

width_alike : (r s : Result Width Fault) → Alike SameWidths r s → WidthAlike r s
unfolding Alike
width_alike (Ok v) (Ok w) h = sym (ap (λ (z : Width). z.poly) h)
width_alike (Ok v) (Err f) h = h
width_alike (Err f) (Ok w) h = h
width_alike (Err f) (Err g) h = h

written_alike : (r s : Result Written Fault) → Alike SameWritten r s → WrittenAlike r s
unfolding Alike
written_alike (Ok V) (Ok W) h = sym h
written_alike (Ok V) (Err f) h = h
written_alike (Err f) (Ok W) h = h
written_alike (Err f) (Err g) h = h

-- ---- parts in a list

all_good : {X : Type 0} (Q R : X → Type 0) → ((x : X) → Q x → R x) → (es : List ((x : X) × Q x)) → AllOf R (map (λ e. e.0) es)
all_good Q R f [] = tt
all_good Q R f (e ∷ es) = (f e.0 e.1, all_good Q R f es)

-- nothing is asked of single uses
abbrev Any : Use → Type 0
Any u = Unit {0}

any_use : (us : Uses) → Each Any us
any_use [] = tt
any_use (u ∷ us) = (tt, any_use us)

-- ---- what is found at trees

module _ (t : Tests) (A B : List Entry) (subs : List Signature) (same : StandSame A B) where
  record ExprSame (e : Found) : Type 0 where
    pub width_is : WidthSame t A B subs e
    pub typed_is : TypedSame t A B subs e

  record SliceSame (s : FoundSlice) : Type 0 where
    pub adds_is : AddsSame t A B subs s
    pub operands_are : OperandsSame t A B subs s

  abbrev BB : Type 0
  BB = (x : FoundBitfield) × BitfieldSame t A B subs x

  abbrev CC : Type 0
  CC = (x : FoundPart) × PartSame t A B subs x

  abbrev EE : Type 0
  EE = (x : Found) × ExprSame x

  abbrev FF : Type 0
  FF = (x : FoundField) × GivenSame t A B subs x

  abbrev PP : Type 0
  PP = (x : FoundPattern) × PatternSame t A B subs x

  abbrev SS : Type 0
  SS = (x : FoundSlice) × SliceSame x

  abbrev TT : Type 0
  TT = (x : FoundType) × WrittenSame t A B subs x

  abbrev F : Effect → Scope
  F k = first t A B subs k

  abbrev S : Effect → Scope
  S k = second t A B subs k

  abbrev expr_below : ex.Expr-F BB CC EE FF PP SS TT → ex.Expr-F FoundBitfield FoundPart Found FoundField FoundPattern FoundSlice FoundType
  expr_below = by_uses.expr_below Any FoundBitfield FoundPart Found FoundField FoundPattern FoundSlice FoundType bitfield_rule part_rule
      (expr_rule t) given_rule (pattern_rule t) slice_rule (type_rule t) (BitfieldSame t A B subs) (PartSame t A B subs) ExprSame
      (GivenSame t A B subs) (PatternSame t A B subs) SliceSame (WrittenSame t A B subs)

  -- ---- expressions

  all_typed : (es : List EE) → AllOf (TypedSame t A B subs) (map (λ e. e.0) es)
  all_typed es = all_good ExprSame (TypedSame t A B subs) (λ e h. h.typed_is) es

  typed_layer : (y : ex.Expr-F BB CC EE FF PP SS TT) (k : Effect) →
      Alike Same (typed_rule t (expr_below y) (F k)) (typed_rule t (expr_below y) (S k))
  typed_layer (ex.Int span n) k = in_class_alike k span Pure (literal_type n) (λ m. tree.Int m n) (λ m. tree.Int m n)
  typed_layer (ex.Bits span text) k =
      step Same (found_or (literal_of t.limit text) S03 span) _ _ (λ bs.
      in_class_alike k span Pure (bits_wide (length bs)) (λ n. tree.Constant n (bits_with bs [])) (λ n. tree.Constant n (bits_with bs [])))
  typed_layer (ex.Bool span b) k = in_class_alike k span Pure boolean (λ n. tree.Constant n (bool b)) (λ n. tree.Constant n (bool b))
  typed_layer (ex.Name span name) k = name_alike t A B subs span name k (same name)
  typed_layer (ex.Unary span o a) k = unary_alike t A B subs span o a.0 k a.1.typed_is
  typed_layer (ex.Binary span o a b) k = binary_alike t A B subs span o a.0 b.0 k a.1.typed_is b.1.typed_is
  typed_layer (ex.Conditional span c a b) k =
      conditional_alike t A B subs span c.0 a.0 b.0 k c.1.typed_is a.1.typed_is b.1.typed_is
  typed_layer (ex.Tuple span es) k = tuple_alike t A B subs span (map (λ e. e.0) es) k (all_typed es)
  typed_layer (ex.Construct span i fs) k =
      construct_alike t A B subs span i (map (λ f. f.0) fs) k (same i.text)
      (all_good (GivenSame t A B subs) (GivenSame t A B subs) (λ f h. h) fs)
  typed_layer (ex.Call span i ps es) k =
      call_alike t A B subs span i (map (λ e. e.0) ps) (map (λ e. e.0) es) k (same i.text)
      (all_good ExprSame (WidthSame t A B subs) (λ e h. h.width_is) ps) (all_typed es)
  typed_layer (ex.Field span a i) k = field_alike t A B subs span a.0 i k a.1.typed_is
  typed_layer (ex.Fields span a is) k = bitfields_alike t A B subs span a.0 is k a.1.typed_is
  typed_layer (ex.Slices span a ss) k =
      slices_alike t A B subs span a.0 (map (λ s. s.0) ss) k a.1.typed_is
      (all_good SliceSame (OperandsSame t A B subs) (λ s h. h.operands_are) ss)
      (all_good SliceSame (AddsSame t A B subs) (λ s h. h.adds_is) ss)
  typed_layer (ex.Element span a i) k = element_alike t A B subs span a.0 i.0 k a.1.typed_is i.1.typed_is
  typed_layer (ex.As span a w) k = as_alike t A B subs span a.0 w.0 k a.1.typed_is w.1
  typed_layer (ex.In span a p) k = in_alike t A B subs span a.0 p.0 k a.1.typed_is p.1

  width_unary : (span : Span) (o : UnaryOperator) (a : EE) (k : Effect) →
      Alike SameWidths (width_rule (ex.Unary span o a.0) (F k)) (width_rule (ex.Unary span o a.0) (S k))
  width_unary span unary.Negate a k = negated_width t A B subs span a.0 k a.1.width_is
  width_unary span unary.Not a k = alike_err SameWidths (fault_of T19 span)
  width_unary span unary.Complement a k = alike_err SameWidths (fault_of T19 span)

  width_two : (span : Span) (j : Joining) (a b : EE) (k : Effect) →
      Alike SameWidths (width_of span (reading_of_two j a.0 b.0) (F k)) (width_of span (reading_of_two j a.0 b.0) (S k))
  width_two span (Combines o) a b k = combined_width t A B subs span o a.0 b.0 k a.1.width_is b.1.width_is
  width_two span Divides a b k = divided_width t A B subs span a.0 b.0 k a.1.width_is
  width_two span JoinsNothing a b k = alike_err SameWidths (fault_of T19 span)

  width_layer : (y : ex.Expr-F BB CC EE FF PP SS TT) (k : Effect) →
      Alike SameWidths (width_rule (expr_below y) (F k)) (width_rule (expr_below y) (S k))
  width_layer (ex.Int span n) k =
      let note = tree.Int (width_note span) n in
      step SameWidths (width_of_number span (pos n)) _ _ (λ p. alike_ok SameWidths (width_as p note) (width_as p note) refl)
  width_layer (ex.Name span name) k = name_width t A B subs span name k (same name)
  width_layer (ex.Unary span o a) k = width_unary span o a k
  width_layer (ex.Binary span o a b) k = width_two span (joining o) a b k
  -- no other form is a width
  width_layer y k = alike_err SameWidths (fault_of T19 _)

  number_unary : (span : Span) (o : UnaryOperator) (a : EE) (k : Effect) →
      Alike SameNumbers (number_rule (ex.Unary span o a.0) (F k)) (number_rule (ex.Unary span o a.0) (S k))
  number_unary span unary.Negate a k = negated_number t A B subs span a.0 k a.1.width_is
  number_unary span unary.Not a k = alike_err SameNumbers (fault_of T19 span)
  number_unary span unary.Complement a k = alike_err SameNumbers (fault_of T19 span)

  number_two : (span : Span) (j : Joining) (a b : EE) (k : Effect) →
      Alike SameNumbers (number_of span (reading_of_two j a.0 b.0) (F k)) (number_of span (reading_of_two j a.0 b.0) (S k))
  number_two span (Combines o) a b k = combined_number t A B subs span o a.0 b.0 k a.1.width_is b.1.width_is
  number_two span Divides a b k = divided_number t A B subs span a.0 b.0 k a.1.width_is
  number_two span JoinsNothing a b k = alike_err SameNumbers (fault_of T19 span)

  number_layer : (y : ex.Expr-F BB CC EE FF PP SS TT) (k : Effect) →
      Alike SameNumbers (number_rule (expr_below y) (F k)) (number_rule (expr_below y) (S k))
  number_layer (ex.Int span n) k =
      let z = number_as (pos n) (tree.Int (width_note span) n) in
      after SameNumbers (need (fits (pos n)) T20 span) _ _ (alike_ok SameNumbers z z refl)
  number_layer (ex.Name span name) k = name_number t A B subs span name k (same name)
  number_layer (ex.Unary span o a) k = number_unary span o a k
  number_layer (ex.Binary span o a b) k = number_two span (joining o) a b k
  -- no other form is a width
  number_layer y k = alike_err SameNumbers (fault_of T19 _)

  atom_unary : (span : Span) (o : UnaryOperator) (a : EE) (k : Effect) →
      atom_rule (ex.Unary span o a.0) (F k) ≡ atom_rule (ex.Unary span o a.0) (S k)
  atom_unary span unary.Negate a k = a.1.width_is.atom_is k
  atom_unary span unary.Not a k = refl
  atom_unary span unary.Complement a k = refl

  atom_two : (j : Joining) (a b : EE) (k : Effect) →
      names_atom (reading_of_two j a.0 b.0) (F k) ≡ names_atom (reading_of_two j a.0 b.0) (S k)
  atom_two (Combines o) a b k = ap₂ (λ x z. x || z) (a.1.width_is.atom_is k) (b.1.width_is.atom_is k)
  atom_two Divides a b k = ap₂ (λ x z. x || z) (a.1.width_is.atom_is k) (b.1.width_is.atom_is k)
  atom_two JoinsNothing a b k = refl

  atom_layer : (y : ex.Expr-F BB CC EE FF PP SS TT) (k : Effect) → atom_rule (expr_below y) (F k) ≡ atom_rule (expr_below y) (S k)
  atom_layer (ex.Name span name) k = name_atom t A B subs name (same name)
  atom_layer (ex.Unary span o a) k = atom_unary span o a k
  atom_layer (ex.Binary span o a b) k = atom_two (joining o) a b k
  -- no other form has an atom
  atom_layer y k = refl

  expr_layer : (y : ex.Expr-F BB CC EE FF PP SS TT) → ExprSame (expr_rule t (expr_below y))
  expr_layer y = record {
    width_is = record { width_is = width_layer y; number_is = number_layer y; atom_is = atom_layer y };
    typed_is = record { typed_is = typed_layer y };
  }

  -- ---- parts of expressions

  abbrev given_below : ex.FieldValue-F BB CC EE FF PP SS TT →
      ex.FieldValue-F FoundBitfield FoundPart Found FoundField FoundPattern FoundSlice FoundType
  given_below = by_uses.given_below Any FoundBitfield FoundPart Found FoundField FoundPattern FoundSlice FoundType bitfield_rule part_rule
      (expr_rule t) given_rule (pattern_rule t) slice_rule (type_rule t) (BitfieldSame t A B subs) (PartSame t A B subs) ExprSame
      (GivenSame t A B subs) (PatternSame t A B subs) SliceSame (WrittenSame t A B subs)

  given_layer : (y : ex.FieldValue-F BB CC EE FF PP SS TT) → GivenSame t A B subs (given_rule (given_below y))
  given_layer (ex.Given i e) = e.1.typed_is

  abbrev slice_below : ex.Slice-F BB CC EE FF PP SS TT →
      ex.Slice-F FoundBitfield FoundPart Found FoundField FoundPattern FoundSlice FoundType
  slice_below = by_uses.slice_below Any FoundBitfield FoundPart Found FoundField FoundPattern FoundSlice FoundType bitfield_rule part_rule
      (expr_rule t) given_rule (pattern_rule t) slice_rule (type_rule t) (BitfieldSame t A B subs) (PartSame t A B subs) ExprSame
      (GivenSame t A B subs) (PatternSame t A B subs) SliceSame (WrittenSame t A B subs)

  slice_layer : (y : ex.Slice-F BB CC EE FF PP SS TT) → SliceSame (slice_rule (slice_below y))
  slice_layer (ex.BitAt e) = record {
    adds_is = bit_adds t A B subs e.0;
    operands_are = bit_operands t A B subs e.0 e.1.typed_is;
  }
  slice_layer (ex.HighLow a b) = record {
    adds_is = high_low_adds t A B subs a.0 b.0 a.1.width_is b.1.width_is;
    operands_are = high_low_operands t A B subs a.0 b.0 a.1.typed_is b.1.typed_is;
  }
  slice_layer (ex.LowWidth a b) = record {
    adds_is = low_width_adds t A B subs a.0 b.0 b.1.width_is;
    operands_are = low_width_operands t A B subs a.0 b.0 a.1.typed_is b.1.typed_is;
  }
  slice_layer (ex.FactorWidth a b) = record {
    adds_is = factor_width_adds t A B subs a.0 b.0 b.1.width_is;
    operands_are = factor_width_operands t A B subs a.0 b.0 a.1.typed_is b.1.typed_is;
  }

  abbrev pattern_below : ex.Pattern-F BB CC EE FF PP SS TT →
      ex.Pattern-F FoundBitfield FoundPart Found FoundField FoundPattern FoundSlice FoundType
  pattern_below = by_uses.pattern_below Any FoundBitfield FoundPart Found FoundField FoundPattern FoundSlice FoundType bitfield_rule
      part_rule (expr_rule t) given_rule (pattern_rule t) slice_rule (type_rule t) (BitfieldSame t A B subs) (PartSame t A B subs) ExprSame
      (GivenSame t A B subs) (PatternSame t A B subs) SliceSame (WrittenSame t A B subs)

  all_patterns : (ps : List PP) → AllOf (PatternSame t A B subs) (map (λ p. p.0) ps)
  all_patterns ps = all_good (PatternSame t A B subs) (PatternSame t A B subs) (λ p h. h) ps

  pattern_layer : (y : ex.Pattern-F BB CC EE FF PP SS TT) → PatternSame t A B subs (pattern_rule t (pattern_below y))
  pattern_layer (ex.AnyPattern span) T k = alike_ok Both (matched shape.anything []) (matched shape.anything []) tt
  pattern_layer (ex.SetPattern span b ps) T k = set_alike t A B subs b (map (λ p. p.0) ps) T k (all_patterns ps)
  pattern_layer (ex.MaskPattern span text) T k = mask_alike t A B subs span (literal_digits text) T
  pattern_layer (ex.AtMost span e) T k = end_alike t A B subs span (shape.at_most span) T e.0 k e.1.typed_is
  pattern_layer (ex.AtLeast span e) T k = end_alike t A B subs span (shape.at_least span) T e.0 k e.1.typed_is
  pattern_layer (ex.TuplePattern span ps) T k = tuple_pattern_alike t A B subs span (map (λ p. p.0) ps) T k (all_patterns ps)
  pattern_layer (ex.ValuePattern span e) T k = value_alike t A B subs span T e.0 k e.1.typed_is
  pattern_layer (ex.RangePattern span a b) T k = range_alike t A B subs span T a.0 b.0 k a.1.typed_is b.1.typed_is

  -- ---- written types

  abbrev part_below : ex.ConstraintPart-F BB CC EE FF PP SS TT →
      ex.ConstraintPart-F FoundBitfield FoundPart Found FoundField FoundPattern FoundSlice FoundType
  part_below = by_uses.part_below Any FoundBitfield FoundPart Found FoundField FoundPattern FoundSlice FoundType bitfield_rule part_rule
      (expr_rule t) given_rule (pattern_rule t) slice_rule (type_rule t) (BitfieldSame t A B subs) (PartSame t A B subs) ExprSame
      (GivenSame t A B subs) (PatternSame t A B subs) SliceSame (WrittenSame t A B subs)

  part_layer : (y : ex.ConstraintPart-F BB CC EE FF PP SS TT) → PartSame t A B subs (part_rule (part_below y))
  part_layer (ex.Only e) k = only_part t A B subs e.0 k e.1.width_is
  part_layer (ex.FromTo a b) k = range_part t A B subs a.0 b.0 k a.1.width_is b.1.width_is

  abbrev bitfield_below : ex.Bitfield-F BB CC EE FF PP SS TT →
      ex.Bitfield-F FoundBitfield FoundPart Found FoundField FoundPattern FoundSlice FoundType
  bitfield_below = by_uses.bitfield_below Any FoundBitfield FoundPart Found FoundField FoundPattern FoundSlice FoundType bitfield_rule
      part_rule (expr_rule t) given_rule (pattern_rule t) slice_rule (type_rule t) (BitfieldSame t A B subs) (PartSame t A B subs) ExprSame
      (GivenSame t A B subs) (PatternSame t A B subs) SliceSame (WrittenSame t A B subs)

  bitfield_layer : (y : ex.Bitfield-F BB CC EE FF PP SS TT) → BitfieldSame t A B subs (bitfield_rule (bitfield_below y))
  bitfield_layer (ex.OneBit e i) k = one_bit_alike t A B subs e.0 i k e.1.width_is
  bitfield_layer (ex.BitRange a b i) k = bit_range_alike t A B subs a.0 b.0 i k a.1.width_is b.1.width_is

  abbrev type_below : ex.TypeExpr-F BB CC EE FF PP SS TT →
      ex.TypeExpr-F FoundBitfield FoundPart Found FoundField FoundPattern FoundSlice FoundType
  type_below = by_uses.type_below Any FoundBitfield FoundPart Found FoundField FoundPattern FoundSlice FoundType bitfield_rule part_rule
      (expr_rule t) given_rule (pattern_rule t) slice_rule (type_rule t) (BitfieldSame t A B subs) (PartSame t A B subs) ExprSame
      (GivenSame t A B subs) (PatternSame t A B subs) SliceSame (WrittenSame t A B subs)

  written_layer : (y : ex.TypeExpr-F BB CC EE FF PP SS TT) (outside : Bool) (k : Effect) →
      Alike SameWritten (written_rule t (type_below y) outside (F k)) (written_rule t (type_below y) outside (S k))
  written_layer (ex.IntegerType span ps) outside k =
      integer_alike t A B subs span (map (λ p. p.0) ps) k (all_good (PartSame t A B subs) (PartSame t A B subs) (λ p h. h) ps)
  written_layer (ex.BooleanType span) outside k =
      alike_ok SameWritten (written_as boolean shape.boolean []) (written_as boolean shape.boolean []) refl
  written_layer (ex.BitType span) outside k =
      let W = written_as (bits_wide 1) (shape.one_bit span) [] in
      alike_ok SameWritten W W refl
  written_layer (ex.NamedType span name) outside k = named_alike t A B subs span name k (same name)
  written_layer (ex.BitsType span e fs) outside k =
      bits_alike t A B subs outside span e.0 (map (λ f. f.0) fs) k e.1.width_is
      (all_good (BitfieldSame t A B subs) (BitfieldSame t A B subs) (λ f h. h) fs)
  written_layer (ex.TupleType span ws) outside k =
      tuple_written_alike t A B subs outside span (map (λ w. w.0) ws) k
      (all_good (WrittenSame t A B subs) (WrittenSame t A B subs) (λ w h. h) ws)
  written_layer (ex.ArrayType span e w) outside k = array_alike t A B subs outside span e.0 w.0 k e.1.width_is w.1

  type_layer : (y : ex.TypeExpr-F BB CC EE FF PP SS TT) → WrittenSame t A B subs (type_rule t (type_below y))
  type_layer y = record { ty_is = written_layer y }

  -- ---- all trees

  abbrev steps : by_uses.Steps Any FoundBitfield FoundPart Found FoundField FoundPattern FoundSlice FoundType bitfield_rule part_rule
      (expr_rule t) given_rule (pattern_rule t) slice_rule (type_rule t) (BitfieldSame t A B subs) (PartSame t A B subs) ExprSame
      (GivenSame t A B subs) (PatternSame t A B subs) SliceSame (WrittenSame t A B subs)
  steps = record {
    bitfield = bitfield_layer;
    part = part_layer;
    expr = λ y own. expr_layer y;
    given = given_layer;
    pattern = pattern_layer;
    slice = slice_layer;
    type = λ y own. type_layer y;
  }

  expr_same : (e : Expr) → ExprSame (found t e)
  expr_same e = by_uses.expr_holds Any FoundBitfield FoundPart Found FoundField FoundPattern FoundSlice FoundType bitfield_rule part_rule
      (expr_rule t) given_rule (pattern_rule t) slice_rule (type_rule t) (BitfieldSame t A B subs) (PartSame t A B subs) ExprSame
      (GivenSame t A B subs) (PatternSame t A B subs) SliceSame (WrittenSame t A B subs) steps e (any_use (expr_uses e))

  type_same : (w : TypeExpr) → WrittenSame t A B subs (found_type t w)
  type_same w = by_uses.type_holds Any FoundBitfield FoundPart Found FoundField FoundPattern FoundSlice FoundType bitfield_rule part_rule
      (expr_rule t) given_rule (pattern_rule t) slice_rule (type_rule t) (BitfieldSame t A B subs) (PartSame t A B subs) ExprSame
      (GivenSame t A B subs) (PatternSame t A B subs) SliceSame (WrittenSame t A B subs) steps w (any_use (type_uses w))

-- so it is in a scope with such names
pub judged_same : (t : Tests) (G : Scope) (names : List Entry) → StandSame G.names names → JudgesSame t G names
judged_same t G names same = record {
  typed = λ e. typed_alike _ _ ((expr_same t G.names names G.subs same e).typed_is.typed_is G.class);
  width = λ e. width_alike _ _ ((expr_same t G.names names G.subs same e).width_is.width_is G.class);
  written = λ ty outside. written_alike _ _ ((type_same t G.names names G.subs same ty).ty_is outside G.class);
}
