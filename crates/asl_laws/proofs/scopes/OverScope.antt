-- The types of expressions and the types that are written are over the atoms that the visible names are over.
use Rattle.std.proofs.Common.{◌≡◌, ℕ, ℤ, pos, negsuc, ◌&&◌, suc, length, cond, Bool, true, false, List, [], ◌∷◌, Option, Some, None, option_map, Ok, Result, refl, sym, ap, ◌∙◌, subst, map}
use Rattle.std.specs.Prelude.{nat_le, ◌==◌}
use Rattle.std.specs.Str.{bytes_eq}
use Rattle.asl_syn.specs.declared.token.Span.{Span}
use Rattle.asl_syn.specs.declared.code.StaticCode.TheVariants.{S03, T02, T05, T06, T08, T09, T11, T15, T18, T19, T20}
use Rattle.asl_syn.specs.declared.tree.Ident.{Ident}
use Rattle.asl_syn.specs.declared.tree.UnaryOperator.{UnaryOperator}
use Rattle.asl_syn.specs.declared.tree.UnaryOperator.TheVariants as unary
use Rattle.asl_syn.specs.declared.tree.BinaryOperator.{BinaryOperator}
use Rattle.asl_syn.specs.declared.tree.BinaryOperator.TheVariants as binary
use Rattle.asl_syn.specs.declared.tree.Bitfield.{Bitfield}
use Rattle.asl_syn.specs.declared.tree.ConstraintPart.{ConstraintPart}
use Rattle.asl_syn.specs.declared.tree.Expr.{Expr, roll-Expr}
use Rattle.asl_syn.specs.declared.tree.FieldValue.{FieldValue}
use Rattle.asl_syn.specs.declared.tree.Pattern.{Pattern}
use Rattle.asl_syn.specs.declared.tree.Slice.{Slice}
use Rattle.asl_syn.specs.declared.tree.TypeExpr.{TypeExpr, roll-TypeExpr}
use Rattle.asl_syn.specs.declared.tree.Bitfield.TheOpen as ex
use Rattle.asl_syn.specs.declared.tree.Bitfield.TheFolds.{fold-roll-Expr, fold-roll-TypeExpr, map-Expr, map-TypeExpr, ind-Expr, ind-TypeExpr}
use Rattle.asl_syn.specs.Layers.{ExprLayer, TypeLayer}
use Rattle.asl_poly.specs.Terms.{Polynomial}
use Rattle.asl_poly.specs.Poly.{constant_map, constant_value}
use Rattle.asl_cons.specs.declared.Part.{Part}
use Rattle.asl_cons.specs.Arithmetic as cons
use Rattle.asl_rules.specs.declared.effect.Effect.{Effect}
use Rattle.asl_rules.specs.declared.effect.Effect.TheVariants.{Pure}
use Rattle.asl_rules.specs.Faults.{◌>>=◌, ◌>>◌, need, found_or, fault_of}
use Rattle.asl_rules.specs.Tests.{Tests}
use Rattle.asl_rules.specs.types.Types.{Ty, Fields, Parts, BitField, Widths, integer_of, boolean, bits_of, record_of, exception_of, tuple_of, array_of, named, no_field, field, no_part, part, is_integer, is_boolean, is_bits, same_kind, only_number, join, bare, width_of, bits_wide, substitute, same_kinds}
use Rattle.asl_rules.specs.declarations.Scopes.{Scope, with_class, reading, Signature, Chosen, choose, choose_from, Standing, Stored, Subprogram, TypeName, Label, standing_of, type_of_name}
use Rattle.asl_rules.specs.declarations.Routines.{Routine, UInt, SInt, Zeros, Ones, ZeroExtend, SignExtend, IsZero, IsOnes, Len, Abs, Min, Max, routine_named}
use Rattle.asl_rules.specs.types.Widths.{bounded, length_of, width_sum}
use Rattle.asl_rules.specs.runs.Trees as tree
use Rattle.asl_rules.specs.runs.Trees.{Tree, Note, own, of_library}
use Rattle.asl_rules.specs.types.Shapes.{TypeShape}
use Rattle.asl_syn.specs.declared.code.Fault.{Fault}
use Rattle.asl_rules.specs.values.Vectors.{literal_of}
use Rattle.asl_rules.specs.values.Values.{bool, bits_with}
use Rattle.asl_rules.specs.types.Effects.{greater, together, all_together, greatest}
use Rattle.asl_rules.specs.declarations.Layouts.{slot_of, layout_of}
use Rattle.asl_rules.specs.expressions.Slicing.{FoundSlice, all_operands, sliceable, sliced_width, shapes_of}
use Rattle.asl_rules.specs.expressions.Patterns.{FoundPattern}
use Rattle.asl_rules.specs.expressions.Typing.{Found, Typed, Operand, operand, operands, effects_of, types_of, trees_of, trees_from, in_class, finish}
use Rattle.asl_rules.specs.expressions.Operations.{of_integers, of_booleans, additive, bitwise, concatenated, compared, same_widths, comparable, binary_rule, unary_rule}
use Rattle.asl_rules.specs.values.Members.{member_named, Member, a_field, a_bitfield, member_type, member_tree, numbered, one_further, field_among, bitfield_in, bitfields_named, all_wide, member_of, element_in, indexed, Constructed, constructed, constructed_of, given_once, all_fit, places_given, texts_of}
use Rattle.asl_rules.specs.types.Writing.{Written, FoundType, FoundPart, FoundBitfield, written_as, most_parts, parts_written, view_rule, within_limits, all_parts, all_fields, types_in_order, types_written}
use Rattle.asl_rules.specs.expressions.Calls.{bits_of_first, routine_type, routine_params, polys, widths_given, routine_taken, call_tree, chosen, widths_rule, both_fit, replaced_by, function_of, call_begun}
use Rattle.asl_cons.specs.Arithmetic.{fits}
use Rattle.asl_rules.specs.expressions.Exprs.{literal_type, FoundField, values_given, names_given, found_slice, found_pattern, found, found_type, typed, written, typed_rule, written_rule, expr_rule, given_rule, slice_rule, part_rule, bitfield_rule, type_rule, pattern_rule, apart, name_of_standing, bits_rule_of}
use Rattle.asl_rules.proofs.basics.Inversions.{ok_ok, err_ok, bind_ok, then_ok, need_ok, found_ok}
use Rattle.asl_laws.proofs.expressions.MemberNamed.{member_ok}
use Rattle.asl_rules.proofs.basics.Tests.{no, some_same, none_some}
use Rattle.std.specs.Prelude.{◌⊎◌, if◌then◌else◌, ◌||◌}
use Rattle.std.proofs.Common.{arith, inl, inr}
use Rattle.std.proofs.lemmas.Bool.Decides.{nat_tests}
use Rattle.asl_syn.specs.declared.tree.Slice.{out-Slice}
use Rattle.asl_syn.specs.declared.tree.ConstraintPart.{out-ConstraintPart}
use Rattle.asl_syn.specs.declared.tree.Bitfield.TheFolds.{fold_out-Slice, fold_out-ConstraintPart, map-Slice, map-ConstraintPart}
use Rattle.asl_poly.specs.Terms.{Summand}
use Rattle.asl_poly.specs.Poly.{sum_map, difference_map}
use Rattle.asl_poly.specs.Substitute.{map_at}
use Rattle.asl_rules.specs.types.Types.{from_to, constraint_of, bitfield_width}
use Rattle.asl_rules.specs.declarations.Scopes.{Entry, Param, type_in, is_subprogram}
use Rattle.asl_rules.specs.types.Widths.{Total, plus, minus, plus_number}
use Rattle.asl_rules.specs.expressions.Operations.{arithmetic, any_parts}
use Rattle.asl_rules.specs.expressions.Slicing.{all_add, no_width}
use Rattle.asl_rules.specs.types.Writing.{WrittenPart, one_width, one_number, range_of_widths, range_of_numbers}
use Rattle.asl_rules.specs.expressions.Calls.{Given, given, Replacing, Giving, written_first, argument_first, widths_omitted, given_by_argument, is_width_alone, first_width, unsigned, signed}
use Rattle.asl_cons.specs.Arithmetic.{fits}
use Rattle.asl_rules.specs.expressions.Exprs.{width}
use Rattle.asl_rules.specs.private.Worth.{AtomsOf}
use Rattle.asl_laws.proofs.scopes.WellTyped.{constructed_type}
use Rattle.asl_rules.proofs.values.SameKind.{same_number}
use Rattle.asl_rules.proofs.widths.WidthAtoms.{Good, CountsOver, width_is_over, constant_good, sum_good, difference_good, sum_alone}
pub use Rattle.asl_laws.specs.ScopeRules.{StandingOver, CountedOver, EachOver, IsAtomOf, ResultOver, SubsOver}
use Rattle.asl_laws.proofs.widths.TypesOver.{PartOver, PartsOver, Never, Over, FieldsOver, AllOver, over_more, over_any, shown_over, numbers_over, ArithmeticOver, sum_over, difference_over, product_over, quotient_over, shifted_up_over, shifted_down_over, modulo_over, constraint_over, width_over, only_width_over, join_over, bare_over, Replaced, substitute_over}
use Rattle.asl_rules.proofs.basics.Opening.{opened, type_opened, found_field, found_bitfield, found_part, in_class_is, finish_is, bounded_ok}

abbrev SliceLayer : Type 0
SliceLayer = ex.Slice-F Bitfield ConstraintPart Expr FieldValue Pattern Slice TypeExpr

abbrev PartLayer : Type 0
PartLayer = ex.ConstraintPart-F Bitfield ConstraintPart Expr FieldValue Pattern Slice TypeExpr

-- where a row ends, its type is the one that is given
class_type : (class : Effect) (span : Span) (k : Effect) (T : Ty) (make : Note → Tree) (S : Typed) → in_class class span k T make ≡ Ok S → T ≡ S.ty
class_type class span k T make S h = ap (λ (z : Typed). z.ty) (in_class_is class span k T make S h)

end_type : (class : Effect) (span : Span) (ok : Bool) (k : Effect) (T : Ty) (make : Note → Tree) (S : Typed) → finish class span ok k T make ≡ Ok S → T ≡ S.ty
end_type class span ok k T make S h = ap (λ (z : Typed). z.ty) (finish_is class span ok k T make S h)

-- ---- names and subprograms

-- the visible names are over these atoms
pub record NamesOver (A : ℕ → Type 0) (names : List Entry) : Type 0 where
  pub each : EachOver A names
  pub standing : (name : List ℕ) (x : Standing) → standing_of name names ≡ Some x → StandingOver A x
  pub counts : CountsOver A names

chosen_by : (b : Bool) (n : ℕ) (f : Signature) (o : Option Chosen) (c : Chosen) → ResultOver f → (o ≡ Some c → ResultOver c.signature) → (if b then Some (record { number = n; signature = f }) else o) ≡ Some c → ResultOver c.signature
chosen_by true n f o c r next h = subst (λ (z : Chosen). ResultOver z.signature) (some_same (record { number = n; signature = f }) c h) r
chosen_by false n f o c r next h = next h

chosen_over : (n : ℕ) (name : List ℕ) (Ts : Parts) (fs : List Signature) (c : Chosen) → SubsOver fs → choose_from n name Ts fs ≡ Some c → ResultOver c.signature
chosen_over n name Ts [] c s h = none_some c h
chosen_over n name Ts (f ∷ fs) c s h =
    chosen_by (bytes_eq f.name name && same_kinds f.formals Ts) n f (choose_from (suc n) name Ts fs) c s.0 (λ k. chosen_over (suc n) name Ts fs c s.1 k) h

-- ---- what stands for parameters

-- one width for each parameter
abbrev Covers : List Param → List Given → Type 0
Covers [] gs = Unit {0}
Covers (p ∷ ps) [] = ⊥
Covers (p ∷ ps) (g ∷ gs) = Covers ps gs

pair_same : (m n : ℕ) → suc m ≡ suc n → m ≡ n
pair_same m n h = cc

none_of : {X : Type 0} (n : ℕ) → suc n ≡ 0 → X
none_of n h = absurd (omega (arith, h))

covers_by_length : (ps : List Param) (gs : List Given) → length ps ≡ length gs → Covers ps gs
covers_by_length [] gs h = tt
covers_by_length (p ∷ ps) [] h = none_of (length ps) h
covers_by_length (p ∷ ps) (g ∷ gs) h = covers_by_length ps gs (pair_same (length ps) (length gs) h)

same_is_true : (m n : ℕ) → m ≡ n → (m == n) ≡ true
same_is_true m n h = grind (arith, nat_tests)

type_standing : (A : ℕ → Type 0) (o : Option Standing) (T : Ty) → ((x : Standing) → o ≡ Some x → StandingOver A x) → type_in o ≡ Some T → Over A T
type_standing A (Some (TypeName U)) T g h = subst (Over A) (some_same U T h) (g (TypeName U) refl)
type_standing A (Some (Stored s)) T g h = none_some T h
type_standing A (Some Subprogram) T g h = none_some T h
type_standing A (Some (Label U x)) T g h = none_some T h
type_standing A None T g h = none_some T h

module _ (A : ℕ → Type 0) (tests : Tests) where
  pub type_over : (names : List Entry) (name : List ℕ) (T : Ty) → NamesOver A names → type_of_name name names ≡ Some T → Over A T
  type_over names name T g h = type_standing A (standing_of name names) T (g.standing name) h

  bits_over : (n : ℕ) → Over A (bits_wide n)
  bits_over n = constant_good A (pos n)

  -- ---- operators

  integers_over : (span : Span) (S T V U : Ty) → Over A V → of_integers span S T V ≡ Ok U → Over A U
  integers_over span S T V U w h = let p = then_ok (need (is_integer S && is_integer T) T08 span) (Ok V) U h in subst (Over A) (ok_ok V U p.then) w

  booleans_over : (span : Span) (S T U : Ty) → of_booleans span S T ≡ Ok U → Over A U
  booleans_over span S T U h = let p = then_ok (need (is_boolean S && is_boolean T) T08 span) (Ok boolean) U h in subst (Over A) (ok_ok boolean U p.then) tt

  compared_over : (span : Span) (S T U : Ty) → compared tests span S T ≡ Ok U → Over A U
  compared_over span S T U h = let p = then_ok (comparable tests T08 span S T) (Ok boolean) U h in subst (Over A) (ok_ok boolean U p.then) tt

  bitwise_over : (span : Span) (S T U : Ty) → Over A S → bitwise tests span S T ≡ Ok U → Over A U
  bitwise_over span S T U a h =
      let p = then_ok (need (is_bits S && is_bits T) T08 span) (need (same_widths tests S T) T06 span >> Ok (bits_of (width_of S) [])) U h in
      let q = then_ok (need (same_widths tests S T) T06 span) (Ok (bits_of (width_of S) [])) U p.then in
      subst (Over A) (ok_ok (bits_of (width_of S) []) U q.then) (width_over A S a)

  additive_by : (b c : Bool) (span : Span) (V S T U : Ty) → Over A V → Over A S → cond b (Ok V) (need c T08 span >> need (same_widths tests S T) T06 span >> Ok (bits_of (width_of S) [])) ≡ Ok U → Over A U
  additive_by true c span V S T U w a h = subst (Over A) (ok_ok V U h) w
  additive_by false c span V S T U w a h =
      let p = then_ok (need c T08 span) (need (same_widths tests S T) T06 span >> Ok (bits_of (width_of S) [])) U h in
      let q = then_ok (need (same_widths tests S T) T06 span) (Ok (bits_of (width_of S) [])) U p.then in
      subst (Over A) (ok_ok (bits_of (width_of S) []) U q.then) (width_over A S a)

  additive_over : (span : Span) (op : List Part → List Part → List Part) → ArithmeticOver A op → (S T U : Ty) → Over A S → Over A T → additive tests span op S T ≡ Ok U → Over A U
  additive_over span op f S T U a b h =
      additive_by (is_integer S && is_integer T) _ span (integer_of (op (constraint_of S) (constraint_of T))) S T U (f (constraint_of S) (constraint_of T) (constraint_over A S a) (constraint_over A T b)) a h

  arithmetic_over : (span : Span) (op : List Part → List Part → List Part) → ArithmeticOver A op → (S T U : Ty) → Over A S → Over A T → arithmetic span op S T ≡ Ok U → Over A U
  arithmetic_over span op f S T U a b h =
      integers_over span S T (integer_of (op (constraint_of S) (constraint_of T))) U (f (constraint_of S) (constraint_of T) (constraint_over A S a) (constraint_over A T b)) h

  any_over : ArithmeticOver A any_parts
  any_over ps qs a b = tt

  sum_held : (span : Span) (p q r : Polynomial) → Good A p → Good A q → width_sum span p q ≡ Ok r → Good A r
  sum_held span p q r a b h = sum_alone A span p q r a b h

  concatenated_over : (span : Span) (S T U : Ty) → Over A S → Over A T → concatenated span S T ≡ Ok U → Over A U
  concatenated_over span S T U a b h =
      let p = then_ok (need (is_bits S && is_bits T) T08 span) (width_sum span (width_of S) (width_of T) >>= λ w. Ok (bits_of w [])) U h in
      let q = bind_ok (width_sum span (width_of S) (width_of T)) (λ w. Ok (bits_of w [])) U p.then in
      subst (Over A) (ok_ok (bits_of q.value []) U q.then) (sum_held span (width_of S) (width_of T) q.value (width_over A S a) (width_over A T b) q.first)

  pub binary_over : (span : Span) (o : BinaryOperator) (S T U : Ty) → Over A S → Over A T → binary_rule tests span o S T ≡ Ok U → Over A U
  binary_over span binary.LogicalAnd S T U a b h = booleans_over span S T U h
  binary_over span binary.LogicalOr S T U a b h = booleans_over span S T U h
  binary_over span binary.Implies S T U a b h = booleans_over span S T U h
  binary_over span binary.Equivalent S T U a b h = booleans_over span S T U h
  binary_over span binary.Equal S T U a b h = compared_over span S T U h
  binary_over span binary.NotEqual S T U a b h = compared_over span S T U h
  binary_over span binary.Less S T U a b h = integers_over span S T boolean U tt h
  binary_over span binary.LessEqual S T U a b h = integers_over span S T boolean U tt h
  binary_over span binary.Greater S T U a b h = integers_over span S T boolean U tt h
  binary_over span binary.GreaterEqual S T U a b h = integers_over span S T boolean U tt h
  binary_over span binary.Add S T U a b h = additive_over span cons.sum_parts (sum_over A) S T U a b h
  binary_over span binary.Subtract S T U a b h = additive_over span cons.difference_parts (difference_over A) S T U a b h
  binary_over span binary.BitAnd S T U a b h = bitwise_over span S T U a h
  binary_over span binary.BitOr S T U a b h = bitwise_over span S T U a h
  binary_over span binary.BitXor S T U a b h = bitwise_over span S T U a h
  binary_over span binary.Concatenate S T U a b h = concatenated_over span S T U a b h
  binary_over span binary.Multiply S T U a b h = arithmetic_over span cons.product_parts (product_over A) S T U a b h
  binary_over span binary.DivideExact S T U a b h = arithmetic_over span any_parts any_over S T U a b h
  binary_over span binary.DivideFloor S T U a b h = arithmetic_over span cons.quotient_parts (quotient_over A) S T U a b h
  binary_over span binary.Modulo S T U a b h = arithmetic_over span cons.modulo_parts (modulo_over A) S T U a b h
  binary_over span binary.ShiftLeft S T U a b h = arithmetic_over span cons.shifted_up_parts (shifted_up_over A) S T U a b h
  binary_over span binary.ShiftRight S T U a b h = arithmetic_over span cons.shifted_down_parts (shifted_down_over A) S T U a b h
  binary_over span binary.Power S T U a b h = arithmetic_over span any_parts any_over S T U a b h

  pub unary_over : (span : Span) (o : UnaryOperator) (S U : Ty) → Over A S → unary_rule span o S ≡ Ok U → Over A U
  unary_over span unary.Negate S U a h =
      let p = then_ok (need (is_integer S) T08 span) _ U h in
      let zero : PartsOver A (only_number (pos 0)) = (numbers_over A (pos 0) (pos 0), tt) in
      subst (Over A) (ok_ok (integer_of (cons.difference_parts (only_number (pos 0)) (constraint_of S))) U p.then) (difference_over A (only_number (pos 0)) (constraint_of S) zero (constraint_over A S a))
  unary_over span unary.Not S U a h = let p = then_ok (need (is_boolean S) T08 span) (Ok boolean) U h in subst (Over A) (ok_ok boolean U p.then) tt
  unary_over span unary.Complement S U a h = let p = then_ok (need (is_bits S) T08 span) (Ok (bits_of (width_of S) [])) U h in subst (Over A) (ok_ok (bits_of (width_of S) []) U p.then) (width_over A S a)

  -- ---- members and elements

  field_here : (b : Bool) (T : Ty) (o : Option (ℕ × Ty)) (q : ℕ × Ty) → Over Never T → cond b (Some (0, T)) (one_further o) ≡ Some q → ((p : ℕ × Ty) → o ≡ Some p → Over Never p.1) → Over Never q.1
  field_here true T o q w h next = subst (λ (z : ℕ × Ty). Over Never z.1) (some_same (0, T) q h) w
  field_here false T None q w h next = none_some q h
  field_here false T (Some p) q w h next = subst (λ (z : ℕ × Ty). Over Never z.1) (some_same (_, p.1) q h) (next p refl)

  fields_over : (fs : Fields) (f : List ℕ) (q : ℕ × Ty) → FieldsOver fs → numbered f fs ≡ Some q → Over Never q.1
  fields_over no_field f q s h = none_some q h
  fields_over (field g T fs) f q s h = field_here (bytes_eq g f) T (numbered f fs) q s.0 h (λ p k. fields_over fs f p s.1 k)

  member_by : (o : Option (ℕ × Ty)) (m : Member) → ((q : ℕ × Ty) → o ≡ Some q → Over Never q.1) → field_among o ≡ Some m → Over A (member_type m)
  member_by None m next h = none_some m h
  member_by (Some q) m next h = subst (λ (z : Member). Over A (member_type z)) (some_same (a_field q.0 q.1) m h) (over_any A q.1 (next q refl))

  bitfield_by : (o : Option BitField) (m : Member) → option_map (λ b. a_bitfield b) o ≡ Some m → Over A (member_type m)
  bitfield_by None m h = none_some m h
  bitfield_by (Some f) m h = subst (λ (z : Member). Over A (member_type z)) (some_same (a_bitfield f) m h) (bits_over (bitfield_width f))

  pub member_over : (S : Ty) (f : List ℕ) (m : Member) → Over A S → member_of S f ≡ Some m → Over A (member_type m)
  member_over (record_of n fs) f m s h = member_by (numbered f fs) m (λ q k. fields_over fs f q s k) h
  member_over (exception_of n fs) f m s h = member_by (numbered f fs) m (λ q k. fields_over fs f q s k) h
  member_over (bits_of p u) f m s h = bitfield_by (bitfield_in f u) m h
  member_over (named n supers S) f m s h = member_over S f m (over_any A S s) h
  member_over S f m s h = none_some m h

  pub element_over : (S U : Ty) → Over A S → element_in S ≡ Some U → Over A U
  element_over (array_of n T) U s h = subst (Over A) (some_same T U h) s
  element_over (named n supers S) U s h = element_over S U (over_any A S s) h
  element_over S U s h = none_some U h

  constructed_over : (i : Ident) (o : Option Ty) (c : Constructed) → ((T : Ty) → o ≡ Some T → Over A T) → constructed i o ≡ Ok c → Over A c.ty
  constructed_over i None c g h = err_ok (fault_of T02 i.span) c h
  constructed_over i (Some T) c g h = subst (Over A) (constructed_type T c (found_ok (constructed_of T) T05 i.span c h)) (g T refl)

  -- ---- slices

  abbrev slice_opened : SliceLayer → ex.Slice-F FoundBitfield FoundPart Found FoundField FoundPattern FoundSlice FoundType
  slice_opened = map-Slice Bitfield ConstraintPart Expr FieldValue Pattern Slice TypeExpr FoundBitfield FoundPart Found FoundField FoundPattern FoundSlice FoundType
      (found_bitfield tests) (found_part tests) (found tests) (found_field tests) (found_pattern tests) (found_slice tests) (found_type tests)

  slice_layer : (x : SliceLayer) (G : Scope) (y z : Total) → CountsOver A G.names → Good A y.sum → (slice_rule (slice_opened x)).adds y G ≡ Ok z → Good A z.sum
  slice_layer (ex.BitAt e) G y z c g h = subst (λ (x : Total). Good A x.sum) (ok_ok (plus_number y 1) z h) (sum_good A y.sum (constant_map (pos 1)) g (constant_good A (pos 1)))
  slice_layer (ex.HighLow a b) G y z c g h =
      let p = bind_ok (width tests a G) _ z h in
      let q = bind_ok (width tests b G) _ z p.then in
      let k : Good A (sum_map y.sum p.value.poly) = sum_good A y.sum p.value.poly g (width_is_over tests A a G c p.value p.first) in
      let l : Good A (difference_map (sum_map y.sum p.value.poly) q.value.poly) = difference_good A (sum_map y.sum p.value.poly) q.value.poly k (width_is_over tests A b G c q.value q.first) in
      subst (λ (x : Total). Good A x.sum) (ok_ok (plus_number (minus (plus y p.value.poly) q.value.poly) 1) z q.then) (sum_good A (difference_map (sum_map y.sum p.value.poly) q.value.poly) (constant_map (pos 1)) l (constant_good A (pos 1)))
  slice_layer (ex.LowWidth a b) G y z c g h =
      let p = bind_ok (width tests b G) _ z h in
      subst (λ (x : Total). Good A x.sum) (ok_ok (plus y p.value.poly) z p.then) (sum_good A y.sum p.value.poly g (width_is_over tests A b G c p.value p.first))
  slice_layer (ex.FactorWidth a b) G y z c g h =
      let p = bind_ok (width tests b G) _ z h in
      subst (λ (x : Total). Good A x.sum) (ok_ok (plus y p.value.poly) z p.then) (sum_good A y.sum p.value.poly g (width_is_over tests A b G c p.value p.first))

  slice_over : (s : Slice) (G : Scope) (y z : Total) → CountsOver A G.names → Good A y.sum → (found_slice tests s).adds y G ≡ Ok z → Good A z.sum
  slice_over s G y z c g h =
      slice_layer (out-Slice s) G y z c g
      (sym (ap (λ (f : FoundSlice). f.adds y G) (fold_out-Slice FoundBitfield FoundPart Found FoundField FoundPattern FoundSlice FoundType bitfield_rule part_rule (expr_rule tests) given_rule (pattern_rule tests) slice_rule (type_rule tests) s)) ∙ h)

  all_add_over : (ss : List Slice) (G : Scope) (y z : Total) → CountsOver A G.names → Good A y.sum → all_add (map (found_slice tests) ss) y G ≡ Ok z → Good A z.sum
  all_add_over [] G y z c g h = subst (λ (x : Total). Good A x.sum) (ok_ok y z h) g
  all_add_over (s ∷ ss) G y z c g h =
      let u = bind_ok ((found_slice tests s).adds y G) _ z h in
      all_add_over ss G u.value z c (slice_over s G y u.value c g u.first) u.then

  sliced_over : (span : Span) (ss : List Slice) (G : Scope) (w : Polynomial) → CountsOver A G.names → sliced_width span (map (found_slice tests) ss) G ≡ Ok w → Good A w
  sliced_over span ss G w c h =
      let u = bind_ok (all_add (map (found_slice tests) ss) no_width G) _ w h in
      let v = then_ok _ (Ok u.value.sum) w u.then in
      subst (Good A) (ok_ok u.value.sum w v.then) (all_add_over ss G no_width u.value c (constant_good A (pos 0)) u.first)

  -- ---- constraints

  abbrev part_opened : PartLayer → ex.ConstraintPart-F FoundBitfield FoundPart Found FoundField FoundPattern FoundSlice FoundType
  part_opened = map-ConstraintPart Bitfield ConstraintPart Expr FieldValue Pattern Slice TypeExpr FoundBitfield FoundPart Found FoundField FoundPattern FoundSlice FoundType
      (found_bitfield tests) (found_part tests) (found tests) (found_field tests) (found_pattern tests) (found_slice tests) (found_type tests)

  one_by : (b : Bool) (e : Expr) (G : Scope) (r : WrittenPart) → CountsOver A G.names → (if b then one_width (found tests e) G else one_number (found tests e) G) ≡ Ok r → PartOver A r.part
  one_by true e G r c h =
      let u = bind_ok (width tests e G) _ r h in
      let k = shown_over A u.value.poly (width_is_over tests A e G c u.value u.first) in
      subst (λ (z : WrittenPart). PartOver A z.part) (ok_ok _ r u.then) (record { low = k; high = k })
  one_by false e G r c h =
      let u = bind_ok ((found tests e).number G) _ r h in
      subst (λ (z : WrittenPart). PartOver A z.part) (ok_ok _ r u.then) (numbers_over A u.value.number u.value.number)

  pub range_by : (b : Bool) (e f : Expr) (G : Scope) (r : WrittenPart) → CountsOver A G.names → (if b then range_of_widths (found tests e) (found tests f) G else range_of_numbers (found tests e) (found tests f) G) ≡ Ok r → PartOver A r.part
  range_by true e f G r c h =
      let u = bind_ok (width tests e G) _ r h in
      let v = bind_ok (width tests f G) _ r u.then in
      subst (λ (z : WrittenPart). PartOver A z.part) (ok_ok _ r v.then)
      (record { low = shown_over A u.value.poly (width_is_over tests A e G c u.value u.first); high = shown_over A v.value.poly (width_is_over tests A f G c v.value v.first) })
  range_by false e f G r c h =
      let u = bind_ok ((found tests e).number G) _ r h in
      let v = bind_ok ((found tests f).number G) _ r u.then in
      subst (λ (z : WrittenPart). PartOver A z.part) (ok_ok _ r v.then) (numbers_over A u.value.number v.value.number)

  part_layer : (x : PartLayer) (G : Scope) (r : WrittenPart) → CountsOver A G.names → part_rule (part_opened x) G ≡ Ok r → PartOver A r.part
  part_layer (ex.Only e) G r c h = one_by ((found tests e).has_atom G) e G r c h
  part_layer (ex.FromTo e f) G r c h = range_by ((found tests e).has_atom G || (found tests f).has_atom G) e f G r c h

  part_over : (p : ConstraintPart) (G : Scope) (r : WrittenPart) → CountsOver A G.names → found_part tests p G ≡ Ok r → PartOver A r.part
  part_over p G r c h =
      part_layer (out-ConstraintPart p) G r c
      (sym (ap (λ (f : FoundPart). f G) (fold_out-ConstraintPart FoundBitfield FoundPart Found FoundField FoundPattern FoundSlice FoundType bitfield_rule part_rule (expr_rule tests) given_rule (pattern_rule tests) slice_rule (type_rule tests) p)) ∙ h)

  parts_over : (ps : List ConstraintPart) (G : Scope) (rs : List WrittenPart) → CountsOver A G.names → all_parts (map (found_part tests) ps) G ≡ Ok rs → PartsOver A (parts_written rs)
  parts_over [] G rs c h = subst (λ z. PartsOver A (parts_written z)) (ok_ok [] rs h) tt
  parts_over (p ∷ ps) G rs c h =
      let u = bind_ok (found_part tests p G) _ rs h in
      let v = bind_ok (all_parts (map (found_part tests) ps) G) _ rs u.then in
      subst (λ z. PartsOver A (parts_written z)) (ok_ok (u.value ∷ v.value) rs v.then) (part_over p G u.value c u.first, parts_over ps G v.value c v.first)

  -- ---- calls

  abbrev AllGiven : List Given → Type 0
  AllGiven [] = Unit {0}
  AllGiven (g ∷ gs) = Good A g.width × AllGiven gs

  widths_given_over : (ps : List Expr) (G : Scope) (r : Replacing) → CountsOver A G.names → widths_given (map (found tests) ps) G ≡ Ok r → AllGiven r.given × (length ps ≡ length r.given)
  widths_given_over [] G r c h = subst (λ (z : Replacing). AllGiven z.given × (0 ≡ length z.given)) (ok_ok _ r h) (tt, refl)
  widths_given_over (e ∷ es) G r c h =
      let u = bind_ok (width tests e G) _ r h in
      let v = bind_ok (widths_given (map (found tests) es) G) _ r u.then in
      let k = widths_given_over es G v.value c v.first in
      subst (λ (z : Replacing). AllGiven z.given × (suc (length es) ≡ length z.given)) (ok_ok (written_first (given u.value.poly (found tests e).span) u.value.tree v.value) r v.then)
      ((width_is_over tests A e G c u.value u.first, k.0), ap suc k.1)

  giving_by : (b : Bool) (n : ℕ) (o : Operand) (p : Option Giving) (g : Giving) → Over A o.typed.ty → (p ≡ Some g → Good A g.given.width) →
      (if b then Some (record { place = n; given = given (width_of o.typed.ty) o.span }) else p) ≡ Some g → Good A g.given.width
  giving_by true n o p g a next h = subst (λ (z : Giving). Good A z.given.width) (some_same (record { place = n; given = given (width_of o.typed.ty) o.span }) g h) (width_over A o.typed.ty a)
  giving_by false n o p g a next h = next h

  giving_over : (atom n : ℕ) (Ts : Parts) (os : List Operand) (g : Giving) → AllOver A (types_of os) → given_by_argument atom n Ts os ≡ Some g → Good A g.given.width
  giving_over atom n no_part os g a h = none_some g h
  giving_over atom n (part T Ts) [] g a h = none_some g h
  giving_over atom n (part T Ts) (o ∷ os) g a h =
      giving_by (is_width_alone atom T) n o (given_by_argument atom (suc n) Ts os) g a.0 (λ k. giving_over atom (suc n) Ts os g a.1 k) h

  omitted_over : (span : Span) (ps : List Param) (Ts : Parts) (os : List Operand) (r : Replacing) → AllOver A (types_of os) → widths_omitted span ps Ts os ≡ Ok r → AllGiven r.given × Covers ps r.given
  omitted_over span [] Ts os r a h = subst (λ (z : Replacing). AllGiven z.given × Covers [] z.given) (ok_ok _ r h) (tt, tt)
  omitted_over span (p ∷ ps) Ts os r a h =
      let u = bind_ok (found_or (given_by_argument p.atom 0 Ts os) T11 span) _ r h in
      let v = bind_ok (widths_omitted span ps Ts os) _ r u.then in
      let k = omitted_over span ps Ts os v.value a v.first in
      subst (λ (z : Replacing). AllGiven z.given × Covers (p ∷ ps) z.given) (ok_ok (argument_first u.value.given u.value.place v.value) r v.then)
      ((giving_over p.atom 0 Ts os u.value a (found_ok (given_by_argument p.atom 0 Ts os) T11 span u.value u.first), k.0), k.1)

  widths_over : (span : Span) (f : Signature) (ps : List Expr) (os : List Operand) (G : Scope) (r : Replacing) → CountsOver A G.names → AllOver A (types_of os) →
      widths_rule span f (map (found tests) ps) os G ≡ Ok r → AllGiven r.given × Covers f.params r.given
  widths_over span f [] os G r c a h = omitted_over span f.params f.formals os r a h
  widths_over span f (e ∷ es) os G r c a h =
      let u = then_ok (need (length (map (found tests) (e ∷ es)) == length f.params) T11 span) (widths_given (map (found tests) (e ∷ es)) G) r h in
      let k = widths_given_over (e ∷ es) G r c u.then in
      let l : length (map (found tests) (e ∷ es)) ≡ length f.params = same_number _ _ (need_ok (length (map (found tests) (e ∷ es)) == length f.params) T11 span tt u.first) in
      (k.0, covers_by_length f.params r.given (sym l ∙ mapped_length (e ∷ es) ∙ k.1))
    where
      mapped_length : (es : List Expr) → length (map (found tests) es) ≡ length es
      mapped_length [] = refl
      mapped_length (e ∷ es) = ap suc (mapped_length es)

  at_by : (b : Bool) (p : Param) (g : Given) (n : ℕ) (rest : List Summand) → (n == p.atom) ≡ b → Good A g.width → ((n ≡ p.atom) ⊎ AtomsOf A rest) → AtomsOf A (if b then g.width.terms else rest)
  at_by true p g n rest e a h = a
  at_by false p g n rest e a (inl k) = no (sym e ∙ same_is_true n p.atom k)
  at_by false p g n rest e a (inr k) = k

  covered : (ps : List Param) (gs : List Given) (n : ℕ) → AllGiven gs → Covers ps gs → IsAtomOf ps n → AtomsOf A (map_at (replaced_by ps gs) n)
  covered [] gs n a c i = absurd i
  covered (p ∷ ps) [] n a c i = absurd c
  covered (p ∷ ps) (g ∷ gs) n a c (inl e) = at_by (n == p.atom) p g n (map_at (replaced_by ps gs) n) refl a.0 (inl e)
  covered (p ∷ ps) (g ∷ gs) n a c (inr i) = at_by (n == p.atom) p g n (map_at (replaced_by ps gs) n) refl a.0 (inr (covered ps gs n a.1 c i))

  first_over : (gs : List Given) → AllGiven gs → Over A (bits_of_first (polys gs))
  first_over [] a = tt
  first_over (g ∷ gs) a = a.0

  first_width_over : (Ts : Parts) → AllOver A Ts → Good A (first_width Ts)
  first_width_over no_part a = constant_good A (pos 0)
  first_width_over (part T Ts) a = width_over A T a.0

  unsigned_over : (o : Option ℤ) → PartsOver A (unsigned o)
  unsigned_over None = tt
  unsigned_over (Some (negsuc k)) = tt
  unsigned_over (Some (pos k)) = by (nat_le k 127) _ _
    where
      by : (b : Bool) (y z : ℤ) → PartsOver A (if b then from_to y z else [])
      by true y z = (numbers_over A y z, tt)
      by false y z = tt

  signed_over : (o : Option ℤ) → PartsOver A (signed o)
  signed_over None = tt
  signed_over (Some (negsuc k)) = tt
  signed_over (Some (pos k)) = by (nat_le 1 k && nat_le k 128) _ _
    where
      by : (b : Bool) (y z : ℤ) → PartsOver A (if b then from_to y z else [])
      by true y z = (numbers_over A y z, tt)
      by false y z = tt

  routine_over : (r : Routine) (gs : List Given) (Ts : Parts) → AllGiven gs → AllOver A Ts → Over A (routine_type r (polys gs) Ts)
  routine_over UInt gs Ts a b = unsigned_over (constant_value (first_width Ts))
  routine_over SInt gs Ts a b = signed_over (constant_value (first_width Ts))
  routine_over Zeros gs Ts a b = first_over gs a
  routine_over Ones gs Ts a b = first_over gs a
  routine_over ZeroExtend gs Ts a b = first_over gs a
  routine_over SignExtend gs Ts a b = first_over gs a
  routine_over IsZero gs Ts a b = tt
  routine_over IsOnes gs Ts a b = tt
  routine_over Len gs Ts a b = only_width_over A (first_width Ts) (first_width_over Ts b)
  routine_over Abs gs Ts a b = tt
  routine_over Min gs Ts a b = tt
  routine_over Max gs Ts a b = tt

  function_layer : (span : Span) (i : Ident) (ps : List Expr) (G : Scope) (S : Typed) (o : Option Routine) (os : List Operand) → CountsOver A G.names → SubsOver G.subs → AllOver A (types_of os) →
      function_of tests span i (map (found tests) ps) os G o ≡ Ok S → Over A S.ty
  function_layer span i ps G S (Some r) os c s a h =
      let k = then_ok (routine_taken span r os) _ S h in
      let n = then_ok (need (length (map (found tests) ps) == routine_params r) T11 span) _ S k.then in
      let w = bind_ok (widths_given (map (found tests) ps) G) _ S n.then in
      let g = widths_given_over ps G w.value c w.first in
      subst (Over A) (end_type G.class span (all_together Pure (effects_of os)) (greater (greatest Pure (effects_of os)) Pure) (routine_type r (polys w.value.given) (types_of os)) (call_tree (of_library r) w.value os) S w.then)
      (routine_over r w.value.given (types_of os) g.0 a)
  function_layer span i ps G S None os c s a h =
      let f = bind_ok (chosen span i os G.subs) _ S h in
      let T = bind_ok (found_or f.value.signature.result T18 span) _ S f.then in
      let w = bind_ok (widths_rule span f.value.signature (map (found tests) ps) os G) _ S T.then in
      let b = then_ok (both_fit tests span f.value.signature w.value.given os (replaced_by f.value.signature.params w.value.given)) _ S w.then in
      let u = bind_ok (found_or (substitute (replaced_by f.value.signature.params w.value.given) T.value) T20 span) _ S b.then in
      let g = widths_over span f.value.signature ps os G w.value c a w.first in
      let by : Widths = replaced_by f.value.signature.params w.value.given in
      let r : Over (IsAtomOf f.value.signature.params) T.value =
      chosen_over 0 i.text (types_of os) G.subs f.value s (found_ok (choose i.text (types_of os) G.subs) T09 span f.value f.first) T.value (found_ok f.value.signature.result T18 span T.value T.first) in
      let q : Over (Replaced A by) T.value = over_more (IsAtomOf f.value.signature.params) (Replaced A by) (λ n i. covered f.value.signature.params w.value.given n g.0 g.1 i) T.value r in
      subst (Over A) (end_type G.class span (all_together Pure (effects_of os)) (greater (greatest Pure (effects_of os)) f.value.signature.class) u.value (call_tree (own f.value.number) w.value os) S u.then)
      (substitute_over A by T.value u.value q (found_ok (substitute by T.value) T20 span u.value u.first))

  -- ---- by induction over trees

  abbrev pub TypedOver : Expr → Type 0
  TypedOver e = (G : Scope) (S : Typed) → NamesOver A G.names → SubsOver G.subs → typed tests e G ≡ Ok S → Over A S.ty

  abbrev pub WrittenOver : TypeExpr → Type 0
  WrittenOver t = (outside : Bool) (G : Scope) (W : Written) → NamesOver A G.names → written tests t outside G ≡ Ok W → Over A W.ty

  abbrev Any : {A : Type 0} → A → Type 0
  Any x = Unit {0}

  abbrev Below : Type 0
  Below = ex.Expr-F ((b : Bitfield) × Any b) ((p : ConstraintPart) × Any p) ((e : Expr) × TypedOver e) ((f : FieldValue) × Any f) ((p : Pattern) × Any p) ((s : Slice) × Any s) ((t : TypeExpr) × WrittenOver t)

  abbrev trees : Below → ExprLayer
  trees = map-Expr ((b : Bitfield) × Any b) ((p : ConstraintPart) × Any p) ((e : Expr) × TypedOver e) ((f : FieldValue) × Any f) ((p : Pattern) × Any p) ((s : Slice) × Any s) ((t : TypeExpr) × WrittenOver t)
      Bitfield ConstraintPart Expr FieldValue Pattern Slice TypeExpr (λ x. x.0) (λ x. x.0) (λ x. x.0) (λ x. x.0) (λ x. x.0) (λ x. x.0) (λ x. x.0)

  abbrev TypeBelow : Type 0
  TypeBelow = ex.TypeExpr-F ((b : Bitfield) × Any b) ((p : ConstraintPart) × Any p) ((e : Expr) × TypedOver e) ((f : FieldValue) × Any f) ((p : Pattern) × Any p) ((s : Slice) × Any s) ((t : TypeExpr) × WrittenOver t)

  abbrev type_trees : TypeBelow → TypeLayer
  type_trees = map-TypeExpr ((b : Bitfield) × Any b) ((p : ConstraintPart) × Any p) ((e : Expr) × TypedOver e) ((f : FieldValue) × Any f) ((p : Pattern) × Any p) ((s : Slice) × Any s) ((t : TypeExpr) × WrittenOver t)
      Bitfield ConstraintPart Expr FieldValue Pattern Slice TypeExpr (λ x. x.0) (λ x. x.0) (λ x. x.0) (λ x. x.0) (λ x. x.0) (λ x. x.0) (λ x. x.0)

  literal_over : (class : Effect) (span : Span) (o : Option (List Bool)) (S : Typed) → bits_rule_of class span o ≡ Ok S → Over A S.ty
  literal_over class span None S h = err_ok (fault_of S03 span) S h
  literal_over class span (Some bs) S h =
      subst (Over A) (class_type class span Pure (bits_wide (length bs)) (λ n. tree.Constant n (bits_with bs [])) S h)
      (bits_over (length bs))

  standing_over : (span : Span) (name : List ℕ) (o : Option Standing) (G : Scope) (S : Typed) → ((st : Standing) → o ≡ Some st → StandingOver A st) → name_of_standing span name o G ≡ Ok S → Over A S.ty
  standing_over span name (Some (Stored s)) G S g h = subst (Over A) (class_type G.class span (reading s) s.ty (λ n. tree.Read n (slot_of name (layout_of G.names))) S h) (g (Stored s) refl)
  standing_over span name (Some (Label T x)) G S g h = subst (Over A) (class_type G.class span Pure T (λ n. tree.Constant n x) S h) (g (Label T x) refl)
  standing_over span name (Some Subprogram) G S g h = err_ok (fault_of T02 span) S h
  standing_over span name (Some (TypeName T)) G S g h = err_ok (fault_of T02 span) S h
  standing_over span name None G S g h = err_ok (fault_of T02 span) S h

  operands_over : (es : List ((e : Expr) × TypedOver e)) (G : Scope) (os : List Operand) → NamesOver A G.names → SubsOver G.subs → operands (map (found tests) (map (λ e. e.0) es)) G ≡ Ok os → AllOver A (types_of os)
  operands_over [] G os g u h = subst (λ l. AllOver A (types_of l)) (ok_ok [] os h) tt
  operands_over (e ∷ es) G os g u h =
      let s = bind_ok (typed tests e.0 G) _ os h in
      let r = bind_ok (operands (map (found tests) (map (λ e. e.0) es)) G) _ os s.then in
      let w = e.1 G s.value g u s.first in
      subst (λ l. AllOver A (types_of l)) (ok_ok (operand (found tests e.0).span s.value ∷ r.value) os r.then) (w, operands_over es G r.value g u r.first)

  layer_over : (y : Below) (G : Scope) (S : Typed) → NamesOver A G.names → SubsOver G.subs → typed_rule tests (opened tests (trees y)) G ≡ Ok S → Over A S.ty
  layer_over (ex.Int span n) G S g u h = subst (Over A) (class_type G.class span Pure (literal_type n) (λ m. tree.Int m n) S h) (by (fits (pos n)))
    where
      by : (b : Bool) → Over A (integer_of (cond b (only_number (pos n)) []))
      by true = (numbers_over A (pos n) (pos n), tt)
      by false = tt
  layer_over (ex.Bits span t) G S g u h = literal_over G.class span (literal_of tests.limit t) S h
  layer_over (ex.Bool span b) G S g u h = subst (Over A) (class_type G.class span Pure boolean (λ n. tree.Constant n (bool b)) S h) tt
  layer_over (ex.Name span name) G S g u h = standing_over span name (standing_of name G.names) G S (g.standing name) h
  layer_over (ex.Unary span o a) G S g u h =
      let t = bind_ok (typed tests a.0 G) _ S h in
      let v = bind_ok (unary_rule span o t.value.ty) _ S t.then in
      subst (Over A) (class_type G.class span t.value.effect v.value (λ n. tree.Unary n o t.value.tree) S v.then) (unary_over span o t.value.ty v.value (a.1 G t.value g u t.first) v.first)
  layer_over (ex.Binary span o a b) G S g u h =
      let t = bind_ok (typed tests a.0 G) _ S h in
      let v = bind_ok (typed tests b.0 G) _ S t.then in
      let r = bind_ok (binary_rule tests span o t.value.ty v.value.ty) _ S v.then in
      subst (Over A) (end_type G.class span (together t.value.effect v.value.effect) (greater t.value.effect v.value.effect) r.value (λ n. tree.Binary n o t.value.tree v.value.tree) S r.then) (binary_over span o t.value.ty v.value.ty r.value (a.1 G t.value g u t.first) (b.1 G v.value g u v.first) r.first)
  layer_over (ex.Conditional span c a b) G S g u h =
      let z = bind_ok (typed tests c.0 G) _ S h in
      let s = bind_ok (typed tests a.0 G) _ S z.then in
      let t = bind_ok (typed tests b.0 G) _ S s.then in
      let n = then_ok (need (is_boolean z.value.ty) T05 (found tests c.0).span) _ S t.then in
      let r = bind_ok (found_or (join tests s.value.ty t.value.ty) (apart s.value.ty t.value.ty) span) _ S n.then in
      let j = found_ok (join tests s.value.ty t.value.ty) (apart s.value.ty t.value.ty) span r.value r.first in
      subst (Over A) (end_type G.class span (all_together Pure (z.value.effect ∷ s.value.effect ∷ t.value.effect ∷ [])) (greatest Pure (z.value.effect ∷ s.value.effect ∷ t.value.effect ∷ [])) (bare r.value) (λ n. tree.Conditional n z.value.tree s.value.tree t.value.tree) S r.then)
      (bare_over A r.value (join_over A tests s.value.ty t.value.ty r.value (a.1 G s.value g u s.first) (b.1 G t.value g u t.first) j))
  layer_over (ex.Tuple span es) G S g u h =
      let s = bind_ok (operands (map (found tests) (map (λ e. e.0) es)) G) _ S h in
      let t = bind_ok (bounded span (tuple_of (types_of s.value))) _ S s.then in
      subst (Over A) (bounded_ok span (tuple_of (types_of s.value)) t.value t.first ∙ end_type G.class span (all_together Pure (effects_of s.value)) (greater (greatest Pure (effects_of s.value)) Pure) t.value (λ n. tree.Tuple n (trees_of s.value)) S t.then)
      (operands_over es G s.value g u s.first)
  layer_over (ex.Construct span i fs) G S g u h =
      let gs = map (found_field tests) (map (λ f. f.0) fs) in
      let o = bind_ok (operands (values_given gs) G) _ S h in
      let c = bind_ok (constructed i (type_of_name i.text G.names)) _ S o.then in
      let t = bind_ok (given_once (names_given gs) [] c.value.fields) _ S c.then in
      let a = then_ok (all_fit tests o.value t.value) _ S t.then in
      let p = bind_ok (found_or (places_given c.value.fields (texts_of (names_given gs))) T15 span) _ S a.then in
      subst (Over A) (end_type G.class span (all_together Pure (effects_of o.value)) (greater (greatest Pure (effects_of o.value)) Pure) c.value.ty (λ n. tree.Construct n c.value.shell p.value (trees_of o.value)) S p.then) (constructed_over i (type_of_name i.text G.names) c.value (λ T k. type_over G.names i.text T g k) c.first)
  layer_over (ex.Call span i ps es) G S g u h =
      let b = bind_ok (call_begun i (map (found tests) (map (λ e. e.0) es)) G) _ S h in
      let o = bind_ok (operands (map (found tests) (map (λ e. e.0) es)) G) _ b.value b.first in
      let k = then_ok (need (is_subprogram (standing_of i.text G.names)) T02 i.span) (Ok o.value) b.value o.then in
      function_layer span i (map (λ e. e.0) ps) G S (routine_named i.text) b.value g.counts u
      (subst (λ l. AllOver A (types_of l)) (ok_ok o.value b.value k.then) (operands_over es G o.value g u o.first)) b.then
  layer_over (ex.Field span a i) G S g u h =
      let t = bind_ok (typed tests a.0 G) _ S h in
      let m = bind_ok (member_named i t.value.ty) _ S t.then in
      subst (Over A) (class_type G.class span t.value.effect (member_type m.value) (member_tree t.value.tree m.value) S m.then) (member_over t.value.ty i.text m.value (a.1 G t.value g u t.first) (member_ok i t.value.ty m.value m.first))
  layer_over (ex.Fields span a is) G S g u h =
      let t = bind_ok (typed tests a.0 G) _ S h in
      let f = bind_ok (bitfields_named span is t.value.ty) _ S t.then in
      subst (Over A) (class_type G.class span t.value.effect (bits_wide (all_wide f.value)) (λ n. tree.Bitfields n t.value.tree f.value) S f.then) (bits_over (all_wide f.value))
  layer_over (ex.Slices span a ss) G S g u h =
      let t = bind_ok (typed tests a.0 G) _ S h in
      let o = bind_ok (all_operands (map (found_slice tests) (map (λ s. s.0) ss)) G) _ S t.then in
      let k = then_ok (sliceable span t.value.ty o.value) _ S o.then in
      let w = bind_ok (sliced_width span (map (found_slice tests) (map (λ s. s.0) ss)) G) _ S k.then in
      subst (Over A) (end_type G.class span (all_together Pure (t.value.effect ∷ effects_of o.value)) (greatest Pure (t.value.effect ∷ effects_of o.value)) (bits_of w.value []) (λ n. tree.Slices n t.value.tree (shapes_of (map (found_slice tests) (map (λ s. s.0) ss))) (trees_of o.value)) S w.then) (sliced_over span (map (λ s. s.0) ss) G w.value g.counts w.first)
  layer_over (ex.Element span a i) G S g u h =
      let t = bind_ok (typed tests a.0 G) _ S h in
      let v = bind_ok (typed tests i.0 G) _ S t.then in
      let r = bind_ok (indexed span t.value.ty v.value.ty) _ S v.then in
      let e = bind_ok (found_or (element_in t.value.ty) T08 span) _ r.value r.first in
      let n = then_ok (need (is_integer v.value.ty) T08 span) (Ok e.value) r.value e.then in
      subst (Over A) (ok_ok e.value r.value n.then ∙ end_type G.class span (together t.value.effect v.value.effect) (greater t.value.effect v.value.effect) r.value (λ n. tree.Element n t.value.tree v.value.tree) S r.then)
      (element_over t.value.ty e.value (a.1 G t.value g u t.first) (found_ok (element_in t.value.ty) T08 span e.value e.first))
  layer_over (ex.As span a t) G S g u h =
      let s = bind_ok (typed tests a.0 G) _ S h in
      let w = bind_ok (written tests t.0 false G) _ S s.then in
      let k = then_ok (need (same_kind s.value.ty w.value.ty) T05 span) _ S w.then in
      subst (Over A) (class_type G.class span s.value.effect w.value.ty (λ n. tree.As n s.value.tree w.value.shape (trees_from w.value.sizes)) S k.then) (t.1 false G w.value g w.first)
  layer_over (ex.In span a p) G S g u h =
      let t = bind_ok (typed tests a.0 G) _ S h in
      let m = bind_ok (found_pattern tests p.0 t.value.ty (with_class G Pure)) _ S t.then in
      subst (Over A) (class_type G.class span t.value.effect boolean (λ n. tree.In n t.value.tree m.value.shape (trees_from m.value.trees)) S m.then) tt

  expr_step : (x : ExprLayer) (y : Below) → trees y ≡ x → TypedOver (roll-Expr x)
  expr_step x y is G S g u h =
      layer_over y G S g u (ap (λ z. typed_rule tests (opened tests z) G) is ∙ sym (ap (λ (f : Found). f.typed G) (fold-roll-Expr FoundBitfield FoundPart Found FoundField FoundPattern FoundSlice FoundType bitfield_rule part_rule (expr_rule tests) given_rule (pattern_rule tests) slice_rule (type_rule tests) x)) ∙ h)

  -- ---- written types

  types_over : (ts : List ((t : TypeExpr) × WrittenOver t)) (outside : Bool) (G : Scope) (Ws : List Written) → NamesOver A G.names → types_in_order outside (map (found_type tests) (map (λ t. t.0) ts)) G ≡ Ok Ws → AllOver A (types_written Ws)
  types_over [] outside G Ws g h = subst (λ l. AllOver A (types_written l)) (ok_ok [] Ws h) tt
  types_over (t ∷ ts) outside G Ws g h =
      let s = bind_ok (written tests t.0 outside G) _ Ws h in
      let r = bind_ok (types_in_order outside (map (found_type tests) (map (λ t. t.0) ts)) G) _ Ws s.then in
      let w = t.1 outside G s.value g s.first in
      subst (λ l. AllOver A (types_written l)) (ok_ok (s.value ∷ r.value) Ws r.then) (w, types_over ts outside G r.value g r.first)

  written_is : (T : Ty) (s : TypeShape) (ts : List Tree) (W : Written) → Over A T → (let r : Result Written Fault = Ok (written_as T s ts) in r) ≡ Ok W → Over A W.ty
  written_is T s ts W w h = subst (λ (z : Written). Over A z.ty) (ok_ok (written_as T s ts) W h) w

  type_layer_over : (y : TypeBelow) (outside : Bool) (G : Scope) (W : Written) → NamesOver A G.names → written_rule tests (type_opened tests (type_trees y)) outside G ≡ Ok W → Over A W.ty
  type_layer_over (ex.IntegerType span ps) outside G W g h =
      let p = bind_ok (all_parts (map (found_part tests) (map (λ p. p.0) ps)) G) _ W h in
      let n = then_ok (need (nat_le (length p.value) most_parts) T20 span) _ W p.then in
      written_is (integer_of (parts_written p.value)) _ _ W (parts_over (map (λ p. p.0) ps) G p.value g.counts p.first) n.then
  type_layer_over (ex.BooleanType span) outside G W g h = written_is boolean _ _ W tt h
  type_layer_over (ex.BitType span) outside G W g h = written_is (bits_wide 1) _ _ W (bits_over 1) h
  type_layer_over (ex.NamedType span name) outside G W g h =
      let t = bind_ok (found_or (type_of_name name G.names) T02 span) _ W h in
      written_is t.value _ _ W (type_over G.names name t.value g (found_ok (type_of_name name G.names) T02 span t.value t.first)) t.then
  type_layer_over (ex.BitsType span e fs) outside G W g h =
      let w = bind_ok ((found tests e.0).width G) _ W h in
      let x = bind_ok (all_fields (map (found_bitfield tests) (map (λ f. f.0) fs)) G) _ W w.then in
      let v = bind_ok (view_rule span w.value.poly x.value) _ W x.then in
      let n = then_ok (need (within_limits tests.limit outside w.value.poly) T20 span) _ W v.then in
      written_is (bits_of w.value.poly v.value) _ _ W (width_is_over tests A e.0 G g.counts w.value w.first) n.then
  type_layer_over (ex.TupleType span ts) outside G W g h =
      let s = bind_ok (types_in_order outside (map (found_type tests) (map (λ t. t.0) ts)) G) _ W h in
      let t = bind_ok (bounded span (tuple_of (types_written s.value))) _ W s.then in
      written_is t.value _ _ W (subst (Over A) (bounded_ok span (tuple_of (types_written s.value)) t.value t.first) (types_over ts outside G s.value g s.first)) t.then
  type_layer_over (ex.ArrayType span e t) outside G W g h =
      let w = bind_ok ((found tests e.0).width G) _ W h in
      let u = bind_ok (written tests t.0 outside G) _ W w.then in
      let z = bind_ok (found_or (constant_value w.value.poly) T19 span) _ W u.then in
      let n = bind_ok (length_of span z.value) _ W z.then in
      let b = bind_ok (bounded span (array_of n.value u.value.ty)) _ W n.then in
      let v = t.1 outside G u.value g u.first in
      written_is b.value _ _ W (subst (Over A) (bounded_ok span (array_of n.value u.value.ty) b.value b.first) v) b.then

  type_step : (x : TypeLayer) (y : TypeBelow) → type_trees y ≡ x → WrittenOver (roll-TypeExpr x)
  type_step x y is outside G W g h =
      type_layer_over y outside G W g (ap (λ z. written_rule tests (type_opened tests z) outside G) is ∙ sym (ap (λ (f : FoundType). f.ty outside G) (fold-roll-TypeExpr FoundBitfield FoundPart Found FoundField FoundPattern FoundSlice FoundType bitfield_rule part_rule (expr_rule tests) given_rule (pattern_rule tests) slice_rule (type_rule tests) x)) ∙ h)

  pub typed_over : (e : Expr) → TypedOver e
  typed_over = ind-Expr Any Any TypedOver Any Any Any WrittenOver (λ x y is. tt) (λ x y is. tt) expr_step (λ x y is. tt) (λ x y is. tt) (λ x y is. tt) type_step

  pub written_over : (t : TypeExpr) → WrittenOver t
  written_over = ind-TypeExpr Any Any TypedOver Any Any Any WrittenOver (λ x y is. tt) (λ x y is. tt) expr_step (λ x y is. tt) (λ x y is. tt) (λ x y is. tt) type_step
