-- What is found at expressions, patterns, slices and written types depends on the names that they use alone: in two scopes it is the same,
-- trees, slots and faults included, where each name that is used stands for the same and is held in the same place, and calls of it choose
-- the same.
use Rattle.std.proofs.Common.{◌≡◌, ℕ, Bool, false, List, [], ◌∷◌, ◌++◌, map, length, Option, Some, None, Ok, refl, sym, ◌∙◌}
use Rattle.std.specs.Prelude.{Result, ◌==◌}
use Rattle.asl_syn.specs.declared.token.Span.{Span}
use Rattle.asl_syn.specs.declared.code.Fault.{Fault}
use Rattle.asl_syn.specs.declared.code.StaticCode.TheVariants.{T02, T09, T11, T18, T19, T23}
use Rattle.asl_syn.specs.declared.tree.Ident.{Ident}
use Rattle.asl_syn.specs.declared.tree.UnaryOperator.{UnaryOperator}
use Rattle.asl_syn.specs.declared.tree.UnaryOperator.TheVariants as unary
use Rattle.asl_syn.specs.declared.tree.BinaryOperator.{BinaryOperator}
use Rattle.asl_syn.specs.declared.tree.Expr.{Expr}
use Rattle.asl_syn.specs.declared.tree.Pattern.{Pattern}
use Rattle.asl_syn.specs.declared.tree.Slice.{Slice}
use Rattle.asl_syn.specs.declared.tree.TypeExpr.{TypeExpr}
use Rattle.asl_syn.specs.declared.tree.Bitfield.TheOpen as ex
use Rattle.asl_syn.specs.declared.tree.Bitfield.TheFolds.{map-Bitfield, map-ConstraintPart, map-Expr, map-FieldValue, map-Pattern}
use Rattle.asl_syn.specs.declared.tree.Bitfield.TheFolds.{map-Slice, map-TypeExpr}
use Rattle.asl_rules.specs.declared.effect.Effect.{Effect}
use Rattle.asl_rules.specs.declared.effect.Effect.TheVariants.{Pure}
use Rattle.asl_rules.specs.declared.slot.Slot.{Slot}
use Rattle.asl_rules.specs.Faults.{◌>>=◌, ◌>>◌, need, fault, found_or}
use Rattle.asl_rules.specs.Tests.{Tests}
use Rattle.asl_rules.specs.types.Types.{Ty, Parts, no_part, part, tuple_parts}
use Rattle.asl_rules.specs.types.Shapes as shape
use Rattle.asl_rules.specs.runs.Trees as tree
use Rattle.asl_rules.specs.declarations.Routines.{Routine, routine_named}
use Rattle.asl_rules.specs.declarations.Scopes.{Scope, Entry, Signature, Standing, Stored, Subprogram, TypeName, Label, standing_of}
use Rattle.asl_rules.specs.declarations.Scopes.{storage_in, type_in, is_subprogram, is_absent, reading, choose}
use Rattle.asl_rules.specs.declarations.Layouts.{slot_of, layout_of}
use Rattle.asl_rules.specs.types.Widths.{Total, width_of_standing, number_of_standing, storage_has_atom, totalled}
use Rattle.asl_rules.specs.expressions.Typing.{Found, Typed, Operand, operand, operands, types_of, in_class, width_as, number_as}
use Rattle.asl_rules.specs.expressions.Typing.{width_note}
use Rattle.asl_rules.specs.expressions.Slicing.{FoundSlice, all_operands, all_add, no_width, shapes_of, sliceable, slices_behind}
use Rattle.asl_rules.specs.types.Writing.{FoundPart, FoundBitfield, FoundType, all_parts, all_fields, types_in_order, integer_written}
use Rattle.asl_rules.specs.types.Writing.{bits_written, tuple_written, named_written}
use Rattle.asl_rules.specs.expressions.Patterns.{FoundPattern, matched, all_match, as_many, parts_match, set_matched, pattern_shapes}
use Rattle.asl_rules.specs.expressions.Patterns.{pattern_trees}
use Rattle.asl_rules.specs.values.Members.{construction}
use Rattle.asl_rules.specs.expressions.Calls.{given, written_first, widths_given, widths_rule, routine_taken, routine_params}
use Rattle.asl_rules.specs.expressions.Calls.{routine_called, function_called, function_of, procedure_called, procedure_of, function_rule}
use Rattle.asl_rules.specs.expressions.Calls.{procedure_rule}
use Rattle.asl_rules.specs.expressions.Exprs.{FoundField, name_of_standing, tuple_with, values_given, names_given, expr_rule, given_rule}
use Rattle.asl_rules.specs.expressions.Exprs.{slice_rule, part_rule, bitfield_rule, type_rule, pattern_rule, found, found_type, found_slice}
use Rattle.asl_rules.specs.expressions.Exprs.{found_pattern, typed_rule, width_of, number_of, names_atom}
use Rattle.asl_rules.specs.declared.joining.Joining.{Joining}
use Rattle.asl_rules.specs.declared.joining.Joining.TheVariants.{Combines, Divides, JoinsNothing}
use Rattle.asl_rules.specs.types.Arithmetic.{joining, reading_of_two, divisor}
use Rattle.asl_rules.specs.declarations.UsedNames.{Use, of_value, of_subprogram, of_type, Each, expr_uses, pattern_uses, slice_uses}
use Rattle.asl_rules.specs.declarations.UsedNames.{type_uses}
use Rattle.asl_laws.proofs.names.ByUses as by_uses
use Rattle.asl_laws.proofs.names.ByUses.{OwnExpr, OwnType}

-- ---- what a use looks up

-- a name stands for the same and is held in the same place, and what is called is chosen alike
abbrev pub SameAt : List Entry → List Entry → List Signature → List Signature → Use → Type 0
SameAt A B ss rs (of_value span name) = (standing_of name A ≡ standing_of name B) ×
    (slot_of name (layout_of A) ≡ slot_of name (layout_of B))
SameAt A B ss rs (of_subprogram span name) = (standing_of name A ≡ standing_of name B) ×
    ((Ts : Parts) → choose name Ts ss ≡ choose name Ts rs)
SameAt A B ss rs (of_type name) = standing_of name A ≡ standing_of name B

-- ---- what is found where these names are visible

abbrev pub scope_at : List Entry → List Signature → Effect → Scope
scope_at names subs class = record { names = names; subs = subs; class = class }

abbrev pub expr_in : List Entry → List Signature → Found → Found
expr_in X ss f = record {
  span = f.span;
  typed = λ G. f.typed (scope_at X ss G.class);
  width = λ G. f.width (scope_at X ss G.class);
  number = λ G. f.number (scope_at X ss G.class);
  has_atom = λ G. f.has_atom (scope_at X ss G.class);
  divisor = f.divisor;
}

abbrev pub slice_in : List Entry → List Signature → FoundSlice → FoundSlice
slice_in X ss f = record {
  operands = λ G. f.operands (scope_at X ss G.class);
  adds = λ x G. f.adds x (scope_at X ss G.class);
  shape = f.shape;
}

abbrev pub given_in : List Entry → List Signature → FoundField → FoundField
given_in X ss f = record { name = f.name; value = expr_in X ss f.value }

abbrev pub pattern_in : List Entry → List Signature → FoundPattern → FoundPattern
pattern_in X ss p = λ T G. p T (scope_at X ss G.class)

abbrev pub part_in : List Entry → List Signature → FoundPart → FoundPart
part_in X ss p = λ G. p (scope_at X ss G.class)

abbrev pub bitfield_in : List Entry → List Signature → FoundBitfield → FoundBitfield
bitfield_in X ss f = λ G. f (scope_at X ss G.class)

abbrev pub written_in : List Entry → List Signature → FoundType → FoundType
written_in X ss w = record { span = w.span; ty = λ o G. w.ty o (scope_at X ss G.class) }

-- a name that stands for this, held in this place
abbrev named : Effect → Span → Option Standing → Slot → Result Typed Fault
named class span None slot = fault T02 span
named class span (Some (Stored s)) slot = in_class class span (reading s) s.ty (λ n. tree.Read n slot)
named class span (Some Subprogram) slot = fault T02 span
named class span (Some (TypeName T)) slot = fault T02 span
named class span (Some (Label T x)) slot = in_class class span Pure T (λ n. tree.Constant n x)

name_is : (span : Span) (name : List ℕ) (o : Option Standing) (G : Scope) →
    name_of_standing span name o G ≡ named G.class span o (slot_of name (layout_of G.names))
name_is span name None G = refl
name_is span name (Some (Stored s)) G = refl
name_is span name (Some Subprogram) G = refl
name_is span name (Some (TypeName T)) G = refl
name_is span name (Some (Label T x)) G = refl

module _ (t : Tests) (A B : List Entry) (ss rs : List Signature) where
  abbrev pub ExprSame : Found → Type 0
  ExprSame f = expr_in A ss f ≡ expr_in B rs f

  abbrev pub SliceSame : FoundSlice → Type 0
  SliceSame f = slice_in A ss f ≡ slice_in B rs f

  abbrev pub GivenSame : FoundField → Type 0
  GivenSame f = given_in A ss f ≡ given_in B rs f

  abbrev pub PatternSame : FoundPattern → Type 0
  PatternSame f = pattern_in A ss f ≡ pattern_in B rs f

  abbrev pub PartSame : FoundPart → Type 0
  PartSame f = part_in A ss f ≡ part_in B rs f

  abbrev pub BitfieldSame : FoundBitfield → Type 0
  BitfieldSame f = bitfield_in A ss f ≡ bitfield_in B rs f

  abbrev pub WrittenSame : FoundType → Type 0
  WrittenSame f = written_in A ss f ≡ written_in B rs f

  abbrev BB : Type 0
  BB = (x : FoundBitfield) × BitfieldSame x

  abbrev CC : Type 0
  CC = (x : FoundPart) × PartSame x

  abbrev EE : Type 0
  EE = (x : Found) × ExprSame x

  abbrev FF : Type 0
  FF = (x : FoundField) × GivenSame x

  abbrev PP : Type 0
  PP = (x : FoundPattern) × PatternSame x

  abbrev SS : Type 0
  SS = (x : FoundSlice) × SliceSame x

  abbrev TT : Type 0
  TT = (x : FoundType) × WrittenSame x

  abbrev first : Effect → Scope
  first k = scope_at A ss k

  abbrev second : Effect → Scope
  second k = scope_at B rs k

  -- ---- several parts

  operands_same : (es : List EE) (k : Effect) → operands (map (λ e. e.0) es) (first k) ≡ operands (map (λ e. e.0) es) (second k)
  operands_same [] k = refl
  operands_same (e ∷ es) k = λ i. (e.1 i).typed (first k) >>= λ S. operands_same es k i >>= λ os. Ok (operand e.0.span S ∷ os)

  fields_same : (fs : List FF) (k : Effect) → operands (values_given (map (λ e. e.0) fs)) (first k)
      ≡ operands (values_given (map (λ e. e.0) fs)) (second k)
  fields_same [] k = refl
  fields_same (f ∷ fs) k = λ i. (f.1 i).value.typed (first k) >>= λ S. fields_same fs k i >>= λ os. Ok (operand f.0.value.span S ∷ os)

  widths_same : (es : List EE) (k : Effect) → widths_given (map (λ e. e.0) es) (first k) ≡ widths_given (map (λ e. e.0) es) (second k)
  widths_same [] k = refl
  widths_same (e ∷ es) k = λ i. (e.1 i).width (first k) >>= λ w. widths_same es k i
      >>= λ r. Ok (written_first (given w.poly e.0.span) w.tree r)

  replacing_same : (span : Span) (f : Signature) (es : List EE) (os : List Operand) (k : Effect) →
      widths_rule span f (map (λ e. e.0) es) os (first k) ≡ widths_rule span f (map (λ e. e.0) es) os (second k)
  replacing_same span f [] os k = refl
  replacing_same span f (e ∷ es) os k = λ i. need (length (e.0 ∷ map (λ e. e.0) es) == length f.params) T11 span >> widths_same (e ∷ es) k i

  pub slices_same : (xs : List SS) (k : Effect) → all_operands (map (λ e. e.0) xs) (first k) ≡ all_operands (map (λ e. e.0) xs) (second k)
  slices_same [] k = refl
  slices_same (x ∷ xs) k = λ i. (x.1 i).operands (first k) >>= λ os. slices_same xs k i >>= λ ps. Ok (os ++ ps)

  pub adds_same : (xs : List SS) (k : Effect) (w : Total) →
      all_add (map (λ e. e.0) xs) w (first k) ≡ all_add (map (λ e. e.0) xs) w (second k)
  adds_same [] k w = refl
  adds_same (x ∷ xs) k w = λ i. (x.1 i).adds w (first k) >>= λ y. adds_same xs k y i

  all_match_same : (ps : List PP) (T : Ty) (k : Effect) →
      all_match (map (λ e. e.0) ps) T (first k) ≡ all_match (map (λ e. e.0) ps) T (second k)
  all_match_same [] T k = refl
  all_match_same (p ∷ ps) T k = λ i. p.1 i T (first k) >>= λ m. all_match_same ps T k i >>= λ ms. Ok (m ∷ ms)

  parts_match_same : (ps : List PP) (Ts : Parts) (k : Effect) →
      parts_match (map (λ e. e.0) ps) Ts (first k) ≡ parts_match (map (λ e. e.0) ps) Ts (second k)
  parts_match_same [] Ts k = refl
  parts_match_same (p ∷ ps) no_part k = refl
  parts_match_same (p ∷ ps) (part T Ts) k = λ i. p.1 i T (first k) >>= λ m. parts_match_same ps Ts k i >>= λ ms. Ok (m ∷ ms)

  ranges_same : (ps : List CC) (k : Effect) → all_parts (map (λ e. e.0) ps) (first k) ≡ all_parts (map (λ e. e.0) ps) (second k)
  ranges_same [] k = refl
  ranges_same (p ∷ ps) k = λ i. p.1 i (first k) >>= λ q. ranges_same ps k i >>= λ qs. Ok (q ∷ qs)

  bitfields_same : (fs : List BB) (k : Effect) → all_fields (map (λ e. e.0) fs) (first k) ≡ all_fields (map (λ e. e.0) fs) (second k)
  bitfields_same [] k = refl
  bitfields_same (f ∷ fs) k = λ i. f.1 i (first k) >>= λ x. bitfields_same fs k i >>= λ xs. Ok (x ∷ xs)

  types_same : (outside : Bool) (ws : List TT) (k : Effect) →
      types_in_order outside (map (λ e. e.0) ws) (first k) ≡ types_in_order outside (map (λ e. e.0) ws) (second k)
  types_same outside [] k = refl
  types_same outside (w ∷ ws) k = λ i. (w.1 i).ty outside (first k) >>= λ W. types_same outside ws k i >>= λ Ws. Ok (W ∷ Ws)

  -- ---- calls

  begun_same : (i : Ident) (es : List EE) (k : Effect) → standing_of i.text A ≡ standing_of i.text B →
      (operands (map (λ e. e.0) es) (first k) >>= λ os. need (is_subprogram (standing_of i.text A)) T02 i.span >> Ok os)
      ≡ (operands (map (λ e. e.0) es) (second k) >>= λ os. need (is_subprogram (standing_of i.text B)) T02 i.span >> Ok os)
  begun_same i es k h = λ j. operands_same es k j >>= λ os. need (is_subprogram (h j)) T02 i.span >> Ok os

  function_same : (span : Span) (i : Ident) (ps : List EE) (os : List Operand) (k : Effect) →
      ((Ts : Parts) → choose i.text Ts ss ≡ choose i.text Ts rs) → (r : Option Routine) →
      function_of t span i (map (λ e. e.0) ps) os (first k) r ≡ function_of t span i (map (λ e. e.0) ps) os (second k) r
  function_same span i ps os k h (Some r) = λ j.
      routine_taken span r os >> need (length (map (λ e. e.0) ps) == routine_params r) T11 span >> widths_same ps k j
      >>= λ w. routine_called k span r w os
  function_same span i ps os k h None = λ j.
      found_or (h (types_of os) j) T09 span >>= λ f. found_or f.signature.result T18 span >>= λ T. replacing_same span f.signature ps os k j
      >>= λ w. function_called t k span f T w os

  call_same : (span : Span) (i : Ident) (ps es : List EE) (k : Effect) → SameAt A B ss rs (of_subprogram span i.text) →
      function_rule t span i (map (λ e. e.0) ps) (map (λ e. e.0) es) (first k)
      ≡ function_rule t span i (map (λ e. e.0) ps) (map (λ e. e.0) es) (second k)
  call_same span i ps es k own = λ j. begun_same i es k own.0 j >>= λ os. function_same span i ps os k own.1 (routine_named i.text) j

  procedure_same : (span : Span) (i : Ident) (ps : List EE) (os : List Operand) (k : Effect) →
      ((Ts : Parts) → choose i.text Ts ss ≡ choose i.text Ts rs) → (r : Option Routine) →
      procedure_of t span i (map (λ e. e.0) ps) os (first k) r ≡ procedure_of t span i (map (λ e. e.0) ps) os (second k) r
  procedure_same span i ps os k h (Some r) = refl
  procedure_same span i ps os k h None = λ j.
      found_or (h (types_of os) j) T09 span >>= λ f. need (is_absent f.signature.result) T18 span
      >> replacing_same span f.signature ps os k j >>= λ w. procedure_called t k span f w os

  pub invoked_same : (span : Span) (i : Ident) (ps es : List EE) (k : Effect) → SameAt A B ss rs (of_subprogram span i.text) →
      procedure_rule t span i (map (λ e. e.0) ps) (map (λ e. e.0) es) (first k)
      ≡ procedure_rule t span i (map (λ e. e.0) ps) (map (λ e. e.0) es) (second k)
  invoked_same span i ps es k own = λ j. begun_same i es k own.0 j >>= λ os. procedure_same span i ps os k own.1 (routine_named i.text) j

  -- ---- each sort

  abbrev bitfield_below : ex.Bitfield-F BB CC EE FF PP SS TT →
      ex.Bitfield-F FoundBitfield FoundPart Found FoundField FoundPattern FoundSlice FoundType
  bitfield_below = map-Bitfield BB CC EE FF PP SS TT FoundBitfield FoundPart Found FoundField FoundPattern FoundSlice FoundType (λ x. x.0)
      (λ x. x.0) (λ x. x.0) (λ x. x.0) (λ x. x.0) (λ x. x.0) (λ x. x.0)

  abbrev part_below : ex.ConstraintPart-F BB CC EE FF PP SS TT →
      ex.ConstraintPart-F FoundBitfield FoundPart Found FoundField FoundPattern FoundSlice FoundType
  part_below = map-ConstraintPart BB CC EE FF PP SS TT FoundBitfield FoundPart Found FoundField FoundPattern FoundSlice FoundType (λ x. x.0)
      (λ x. x.0) (λ x. x.0) (λ x. x.0) (λ x. x.0) (λ x. x.0) (λ x. x.0)

  abbrev expr_below : ex.Expr-F BB CC EE FF PP SS TT → ex.Expr-F FoundBitfield FoundPart Found FoundField FoundPattern FoundSlice FoundType
  expr_below = map-Expr BB CC EE FF PP SS TT FoundBitfield FoundPart Found FoundField FoundPattern FoundSlice FoundType (λ x. x.0)
      (λ x. x.0) (λ x. x.0) (λ x. x.0) (λ x. x.0) (λ x. x.0) (λ x. x.0)

  abbrev given_below : ex.FieldValue-F BB CC EE FF PP SS TT →
      ex.FieldValue-F FoundBitfield FoundPart Found FoundField FoundPattern FoundSlice FoundType
  given_below = map-FieldValue BB CC EE FF PP SS TT FoundBitfield FoundPart Found FoundField FoundPattern FoundSlice FoundType (λ x. x.0)
      (λ x. x.0) (λ x. x.0) (λ x. x.0) (λ x. x.0) (λ x. x.0) (λ x. x.0)

  abbrev pattern_below : ex.Pattern-F BB CC EE FF PP SS TT →
      ex.Pattern-F FoundBitfield FoundPart Found FoundField FoundPattern FoundSlice FoundType
  pattern_below = map-Pattern BB CC EE FF PP SS TT FoundBitfield FoundPart Found FoundField FoundPattern FoundSlice FoundType (λ x. x.0)
      (λ x. x.0) (λ x. x.0) (λ x. x.0) (λ x. x.0) (λ x. x.0) (λ x. x.0)

  abbrev slice_below : ex.Slice-F BB CC EE FF PP SS TT →
      ex.Slice-F FoundBitfield FoundPart Found FoundField FoundPattern FoundSlice FoundType
  slice_below = map-Slice BB CC EE FF PP SS TT FoundBitfield FoundPart Found FoundField FoundPattern FoundSlice FoundType (λ x. x.0)
      (λ x. x.0) (λ x. x.0) (λ x. x.0) (λ x. x.0) (λ x. x.0) (λ x. x.0)

  abbrev type_below : ex.TypeExpr-F BB CC EE FF PP SS TT →
      ex.TypeExpr-F FoundBitfield FoundPart Found FoundField FoundPattern FoundSlice FoundType
  type_below = map-TypeExpr BB CC EE FF PP SS TT FoundBitfield FoundPart Found FoundField FoundPattern FoundSlice FoundType (λ x. x.0)
      (λ x. x.0) (λ x. x.0) (λ x. x.0) (λ x. x.0) (λ x. x.0) (λ x. x.0)

  bitfield_step : (y : ex.Bitfield-F BB CC EE FF PP SS TT) → BitfieldSame (bitfield_rule (bitfield_below y))
  bitfield_step (ex.OneBit e n) = λ i. bitfield_in A ss (bitfield_rule (ex.OneBit (e.1 i) n))
  bitfield_step (ex.BitRange a b n) = λ i. bitfield_in A ss (bitfield_rule (ex.BitRange (a.1 i) (b.1 i) n))

  part_step : (y : ex.ConstraintPart-F BB CC EE FF PP SS TT) → PartSame (part_rule (part_below y))
  part_step (ex.Only e) = λ i. part_in A ss (part_rule (ex.Only (e.1 i)))
  part_step (ex.FromTo a b) = λ i. part_in A ss (part_rule (ex.FromTo (a.1 i) (b.1 i)))

  given_step : (y : ex.FieldValue-F BB CC EE FF PP SS TT) → GivenSame (given_rule (given_below y))
  given_step (ex.Given n e) = λ i. given_in A ss (given_rule (ex.Given n (e.1 i)))

  slice_step : (y : ex.Slice-F BB CC EE FF PP SS TT) → SliceSame (slice_rule (slice_below y))
  slice_step (ex.BitAt e) = λ i. slice_in A ss (slice_rule (ex.BitAt (e.1 i)))
  slice_step (ex.HighLow a b) = λ i. slice_in A ss (slice_rule (ex.HighLow (a.1 i) (b.1 i)))
  slice_step (ex.LowWidth a b) = λ i. slice_in A ss (slice_rule (ex.LowWidth (a.1 i) (b.1 i)))
  slice_step (ex.FactorWidth a b) = λ i. slice_in A ss (slice_rule (ex.FactorWidth (a.1 i) (b.1 i)))

  pattern_step : (y : ex.Pattern-F BB CC EE FF PP SS TT) → PatternSame (pattern_rule t (pattern_below y))
  pattern_step (ex.AnyPattern span) = refl
  pattern_step (ex.SetPattern span b ps) = λ i T G. all_match_same ps T G.class i >>= λ ms. Ok (set_matched b ms)
  pattern_step (ex.MaskPattern span text) = refl
  pattern_step (ex.AtMost span e) = λ i. pattern_in A ss (pattern_rule t (ex.AtMost span (e.1 i)))
  pattern_step (ex.AtLeast span e) = λ i. pattern_in A ss (pattern_rule t (ex.AtLeast span (e.1 i)))
  pattern_step (ex.TuplePattern span ps) = λ i T G.
      found_or (tuple_parts T) T23 span >>= λ Ts.
      need (as_many (map (λ e. e.0) ps) Ts) T23 span >>
      parts_match_same ps Ts G.class i >>= λ ms. Ok (matched (shape.in_parts span (pattern_shapes ms)) (pattern_trees ms))
  pattern_step (ex.ValuePattern span e) = λ i. pattern_in A ss (pattern_rule t (ex.ValuePattern span (e.1 i)))
  pattern_step (ex.RangePattern span a b) = λ i. pattern_in A ss (pattern_rule t (ex.RangePattern span (a.1 i) (b.1 i)))

  type_step : (y : ex.TypeExpr-F BB CC EE FF PP SS TT) → OwnType (SameAt A B ss rs) y → WrittenSame (type_rule t (type_below y))
  type_step (ex.IntegerType span ps) own =
      λ i. record { span = span; ty = λ o G. ranges_same ps G.class i >>= λ qs. integer_written span qs }
  type_step (ex.BooleanType span) own = refl
  type_step (ex.BitType span) own = refl
  type_step (ex.NamedType span name) own =
      λ i. record { span = span; ty = λ o G. found_or (type_in (own i)) T02 span >>= λ T. Ok (named_written T) }
  type_step (ex.BitsType span e fs) own = λ i. record {
    span = span;
    ty = λ o G. (e.1 i).width (first G.class) >>= λ w. bitfields_same fs G.class i >>= λ xs. bits_written t.limit o span w.poly w.tree xs;
  }
  type_step (ex.TupleType span ts) own = λ i. record { span = span; ty = λ o G. types_same o ts G.class i >>= λ Ws. tuple_written span Ws }
  type_step (ex.ArrayType span e w) own = λ i. written_in A ss (type_rule t (ex.ArrayType span (e.1 i) (w.1 i)))

  -- in widths a form with a list stands for none
  abbrev no_width_at : Span → (Scope → Result Typed Fault) → Found
  no_width_at span typed = record {
    span = span;
    typed = typed;
    width = λ G. fault T19 span;
    number = λ G. fault T19 span;
    has_atom = λ G. false;
    divisor = None;
  }

  name_same : (span : Span) (name : List ℕ) (k : Effect) → SameAt A B ss rs (of_value span name) →
      name_of_standing span name (standing_of name A) (first k) ≡ name_of_standing span name (standing_of name B) (second k)
  name_same span name k own = name_is span name (standing_of name A) (first k) ∙ (λ i. named k span (own.0 i) (own.1 i))
      ∙ sym (name_is span name (standing_of name B) (second k))

  unary_same : (span : Span) (o : UnaryOperator) (a : EE) → ExprSame (expr_rule t (ex.Unary span o a.0))
  unary_same span unary.Negate a = λ i. expr_in A ss (expr_rule t (ex.Unary span unary.Negate (a.1 i)))
  unary_same span unary.Not a = λ i. expr_in A ss (expr_rule t (ex.Unary span unary.Not (a.1 i)))
  unary_same span unary.Complement a = λ i. expr_in A ss (expr_rule t (ex.Unary span unary.Complement (a.1 i)))

  -- what joins two expressions
  abbrev two_at : List Entry → List Signature → Span → BinaryOperator → Joining → Found → Found → Found
  two_at X us span o j a b = record {
    span = span;
    typed = λ G. typed_rule t (ex.Binary span o a b) (scope_at X us G.class);
    width = λ G. width_of span (reading_of_two j a b) (scope_at X us G.class);
    number = λ G. number_of span (reading_of_two j a b) (scope_at X us G.class);
    has_atom = λ G. names_atom (reading_of_two j a b) (scope_at X us G.class);
    divisor = divisor (reading_of_two j a b);
  }

  two_same : (span : Span) (o : BinaryOperator) (j : Joining) (a b : EE) → two_at A ss span o j a.0 b.0 ≡ two_at B rs span o j a.0 b.0
  two_same span o (Combines c) a b = λ i. two_at A ss span o (Combines c) (a.1 i) (b.1 i)
  two_same span o Divides a b = λ i. two_at A ss span o Divides (a.1 i) (b.1 i)
  two_same span o JoinsNothing a b = λ i. two_at A ss span o JoinsNothing (a.1 i) (b.1 i)

  expr_step : (y : ex.Expr-F BB CC EE FF PP SS TT) → OwnExpr (SameAt A B ss rs) y → ExprSame (expr_rule t (expr_below y))
  expr_step (ex.Int span n) own = refl
  expr_step (ex.Bits span text) own = refl
  expr_step (ex.Bool span b) own = refl
  expr_step (ex.Name span name) own = λ i. record {
    span = span;
    typed = λ G. name_same span name G.class own i;
    width = λ G. width_of_standing span (own.0 i) >>= λ p. Ok (width_as p (tree.Read (width_note span) (own.1 i)));
    number = λ G. number_of_standing span (own.0 i) >>= λ z. Ok (number_as z (tree.Read (width_note span) (own.1 i)));
    has_atom = λ G. storage_has_atom (storage_in (own.0 i));
    divisor = None;
  }
  expr_step (ex.Unary span o a) own = unary_same span o a
  expr_step (ex.Binary span o a b) own = two_same span o (joining o) a b
  expr_step (ex.Conditional span c a b) own = λ i. expr_in A ss (expr_rule t (ex.Conditional span (c.1 i) (a.1 i) (b.1 i)))
  expr_step (ex.Tuple span es) own = λ i. no_width_at span (λ G. operands_same es G.class i >>= λ os. tuple_with G.class span os)
  expr_step (ex.Construct span n fs) own = λ i. no_width_at span
      (λ G. fields_same fs G.class i >>= λ os. construction t G.class span n (type_in (own i)) (names_given (map (λ f. f.0) fs)) os)
  expr_step (ex.Call span n ps es) own = λ i. no_width_at span (λ G. call_same span n ps es G.class own i)
  expr_step (ex.Field span a n) own = λ i. expr_in A ss (expr_rule t (ex.Field span (a.1 i) n))
  expr_step (ex.Fields span a ns) own = λ i. expr_in A ss (expr_rule t (ex.Fields span (a.1 i) ns))
  expr_step (ex.Slices span a xs) own = λ i. no_width_at span (λ G.
      (a.1 i).typed (first G.class) >>= λ S. slices_same xs G.class i >>= λ os.
      sliceable span S.ty os >>
      (adds_same xs G.class no_width i >>= λ x. totalled span x) >>= λ w.
      slices_behind G.class span S (shapes_of (map (λ x. x.0) xs)) os w)
  expr_step (ex.Element span a x) own = λ i. expr_in A ss (expr_rule t (ex.Element span (a.1 i) (x.1 i)))
  expr_step (ex.As span a w) own = λ i. expr_in A ss (expr_rule t (ex.As span (a.1 i) (w.1 i)))
  expr_step (ex.In span a p) own = λ i. expr_in A ss (expr_rule t (ex.In span (a.1 i) (p.1 i)))

  abbrev steps : by_uses.Steps (SameAt A B ss rs) FoundBitfield FoundPart Found FoundField FoundPattern FoundSlice FoundType bitfield_rule
      part_rule (expr_rule t) given_rule (pattern_rule t) slice_rule (type_rule t) BitfieldSame PartSame ExprSame GivenSame PatternSame
      SliceSame WrittenSame
  steps = record {
    bitfield = bitfield_step;
    part = part_step;
    expr = expr_step;
    given = given_step;
    pattern = pattern_step;
    slice = slice_step;
    type = type_step;
  }

  pub expr_same : (x : Expr) → Each (SameAt A B ss rs) (expr_uses x) → ExprSame (found t x)
  expr_same = by_uses.expr_holds (SameAt A B ss rs) FoundBitfield FoundPart Found FoundField FoundPattern FoundSlice FoundType bitfield_rule
      part_rule (expr_rule t) given_rule (pattern_rule t) slice_rule (type_rule t) BitfieldSame PartSame ExprSame GivenSame PatternSame
      SliceSame WrittenSame steps

  pub type_same : (x : TypeExpr) → Each (SameAt A B ss rs) (type_uses x) → WrittenSame (found_type t x)
  type_same = by_uses.type_holds (SameAt A B ss rs) FoundBitfield FoundPart Found FoundField FoundPattern FoundSlice FoundType bitfield_rule
      part_rule (expr_rule t) given_rule (pattern_rule t) slice_rule (type_rule t) BitfieldSame PartSame ExprSame GivenSame PatternSame
      SliceSame WrittenSame steps

  pub pattern_same : (x : Pattern) → Each (SameAt A B ss rs) (pattern_uses x) → PatternSame (found_pattern t x)
  pattern_same = by_uses.pattern_holds (SameAt A B ss rs) FoundBitfield FoundPart Found FoundField FoundPattern FoundSlice FoundType
      bitfield_rule part_rule (expr_rule t) given_rule (pattern_rule t) slice_rule (type_rule t) BitfieldSame PartSame ExprSame GivenSame
      PatternSame SliceSame WrittenSame steps

  pub slice_same : (x : Slice) → Each (SameAt A B ss rs) (slice_uses x) → SliceSame (found_slice t x)
  slice_same = by_uses.slice_holds (SameAt A B ss rs) FoundBitfield FoundPart Found FoundField FoundPattern FoundSlice FoundType
      bitfield_rule part_rule (expr_rule t) given_rule (pattern_rule t) slice_rule (type_rule t) BitfieldSame PartSame ExprSame GivenSame
      PatternSame SliceSame WrittenSame steps
