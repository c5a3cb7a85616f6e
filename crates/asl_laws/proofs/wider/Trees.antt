-- What is found at expressions, patterns and written types stays under a wider limit, by one induction over trees.
use Rattle.std.proofs.Common.{◌≡◌, ℕ, ◌≤◌, Bool, List, [], ◌∷◌, map, Ok, refl, sym, ap, subst}
use Rattle.std.specs.Prelude.{pos, ◌-ℤ◌}
use Rattle.asl_syn.specs.declared.tree.UnaryOperator.{UnaryOperator}
use Rattle.asl_syn.specs.declared.tree.UnaryOperator.TheVariants as unary
use Rattle.asl_syn.specs.declared.tree.Bitfield.{Bitfield, roll-Bitfield}
use Rattle.asl_syn.specs.declared.tree.ConstraintPart.{ConstraintPart, roll-ConstraintPart}
use Rattle.asl_syn.specs.declared.tree.Expr.{Expr, roll-Expr}
use Rattle.asl_syn.specs.declared.tree.FieldValue.{FieldValue, roll-FieldValue}
use Rattle.asl_syn.specs.declared.tree.Pattern.{Pattern, roll-Pattern}
use Rattle.asl_syn.specs.declared.tree.Slice.{Slice, roll-Slice}
use Rattle.asl_syn.specs.declared.tree.TypeExpr.{TypeExpr, roll-TypeExpr}
use Rattle.asl_syn.specs.declared.tree.Bitfield.TheOpen as ex
use Rattle.asl_syn.specs.declared.tree.Bitfield.TheFolds.{fold-Bitfield, fold-ConstraintPart, fold-FieldValue, fold-roll-Bitfield}
use Rattle.asl_syn.specs.declared.tree.Bitfield.TheFolds.{map-Bitfield, fold-roll-ConstraintPart, map-ConstraintPart, fold-roll-Expr}
use Rattle.asl_syn.specs.declared.tree.Bitfield.TheFolds.{map-Expr, fold-roll-FieldValue, map-FieldValue, fold-roll-Pattern, map-Pattern}
use Rattle.asl_syn.specs.declared.tree.Bitfield.TheFolds.{fold-roll-Slice, map-Slice, fold-roll-TypeExpr, map-TypeExpr}
use Rattle.asl_laws.proofs.spans.Inductions.{Shown, Steps, BitfieldNode, ConstraintPartNode, ExprNode, FieldValueNode, PatternNode}
use Rattle.asl_laws.proofs.spans.Inductions.{SliceNode, TypeExprNode, bitfield_trees, part_trees, expr_trees, given_trees, pattern_trees}
use Rattle.asl_laws.proofs.spans.Inductions.{slice_trees, type_trees, each_expr, each_pattern, each_slice, each_type}
use Rattle.asl_poly.specs.Poly.{constant_map}
use Rattle.asl_rules.specs.Faults.{◌>>=◌}
use Rattle.asl_rules.specs.Tests.{Tests}
use Rattle.asl_rules.specs.runs.Trees as tree
use Rattle.asl_rules.specs.declarations.Scopes.{Scope}
use Rattle.asl_rules.specs.values.Vectors.{literal_digits}
use Rattle.asl_rules.specs.types.Shapes as shape
use Rattle.asl_rules.specs.types.Widths.{width_difference, held}
use Rattle.asl_rules.specs.declared.joining.Joining.{Joining}
use Rattle.asl_rules.specs.declared.joining.Joining.TheVariants.{Combines, Divides, JoinsNothing}
use Rattle.asl_rules.specs.types.Arithmetic.{joining, reading_of_one, reading_of_two, arithmetic, divisor}
use Rattle.asl_rules.specs.expressions.Typing.{Found, Width, Number, width_as, number_as, width_note}
use Rattle.asl_rules.specs.expressions.Operations.{operation}
use Rattle.asl_rules.specs.values.Members.{field_behind, bitfields_behind}
use Rattle.asl_rules.specs.expressions.Slicing.{FoundSlice}
use Rattle.asl_rules.specs.types.Writing.{FoundPart, FoundBitfield, FoundType}
use Rattle.asl_rules.specs.expressions.Patterns.{FoundPattern, end_matched, value_matched, range_matched, set_matched, pure_typed}
use Rattle.asl_rules.specs.expressions.Exprs.{FoundField, found, found_type, found_slice, found_pattern, typed_rule, width_rule}
use Rattle.asl_rules.specs.expressions.Exprs.{number_rule, atom_rule, written_rule, expr_rule, given_rule, slice_rule, part_rule}
use Rattle.asl_rules.specs.expressions.Exprs.{bitfield_rule, type_rule, pattern_rule, span_of}
use Rattle.asl_rules.specs.expressions.Exprs.{type_span}
use Rattle.asl_laws.proofs.wider.Stays.{Stays, stays_same, stays_bind, Pairs, pairs_of}
use Rattle.asl_laws.proofs.wider.Rows.{FoundStays, SliceStays, GivenStays, TypeStays, PatternStays, PartSame, BitfieldSame, wide_tests}
use Rattle.asl_laws.proofs.wider.Rows.{operands_stay, range_same, only_same, one_bit_same, bit_range_same, high_low_adds, second_adds}
use Rattle.asl_laws.proofs.wider.Rows.{slices_stay, all_match_stay, tuple_pattern_stays, pure_stays, in_stays, tuple_type_stays}
use Rattle.asl_laws.proofs.wider.Rows.{array_stays, as_stays, integer_stays, unary_stays, element_stays, tuple_stays, bits_stays}
use Rattle.asl_laws.proofs.wider.Rows.{binary_stays, conditional_stays, construct_stays, call_stays, mask_stays, bits_type_stays, two_width, two_number, two_atom}

-- what is found at trees by these tests
module _ (v : Tests) where
  abbrev pub found_bitfield : Bitfield → FoundBitfield
  found_bitfield = fold-Bitfield FoundBitfield FoundPart Found FoundField FoundPattern FoundSlice FoundType bitfield_rule part_rule
      (expr_rule v) given_rule (pattern_rule v) slice_rule (type_rule v)

  abbrev pub found_part : ConstraintPart → FoundPart
  found_part = fold-ConstraintPart FoundBitfield FoundPart Found FoundField FoundPattern FoundSlice FoundType bitfield_rule part_rule
      (expr_rule v) given_rule (pattern_rule v) slice_rule (type_rule v)

  abbrev pub found_given : FieldValue → FoundField
  found_given = fold-FieldValue FoundBitfield FoundPart Found FoundField FoundPattern FoundSlice FoundType bitfield_rule part_rule
      (expr_rule v) given_rule (pattern_rule v) slice_rule (type_rule v)

  abbrev pub opened_bitfield : ex.Bitfield-F Bitfield ConstraintPart Expr FieldValue Pattern Slice TypeExpr →
      ex.Bitfield-F FoundBitfield FoundPart Found FoundField FoundPattern FoundSlice FoundType
  opened_bitfield = map-Bitfield Bitfield ConstraintPart Expr FieldValue Pattern Slice TypeExpr FoundBitfield FoundPart Found FoundField
      FoundPattern FoundSlice FoundType found_bitfield found_part (found v) found_given (found_pattern v) (found_slice v) (found_type v)

  abbrev pub opened_part : ex.ConstraintPart-F Bitfield ConstraintPart Expr FieldValue Pattern Slice TypeExpr →
      ex.ConstraintPart-F FoundBitfield FoundPart Found FoundField FoundPattern FoundSlice FoundType
  opened_part = map-ConstraintPart Bitfield ConstraintPart Expr FieldValue Pattern Slice TypeExpr FoundBitfield FoundPart Found FoundField
      FoundPattern FoundSlice FoundType found_bitfield found_part (found v) found_given (found_pattern v) (found_slice v) (found_type v)

  abbrev pub opened_expr : ex.Expr-F Bitfield ConstraintPart Expr FieldValue Pattern Slice TypeExpr →
      ex.Expr-F FoundBitfield FoundPart Found FoundField FoundPattern FoundSlice FoundType
  opened_expr = map-Expr Bitfield ConstraintPart Expr FieldValue Pattern Slice TypeExpr FoundBitfield FoundPart Found FoundField
      FoundPattern FoundSlice FoundType found_bitfield found_part (found v) found_given (found_pattern v) (found_slice v) (found_type v)

  abbrev pub opened_given : ex.FieldValue-F Bitfield ConstraintPart Expr FieldValue Pattern Slice TypeExpr →
      ex.FieldValue-F FoundBitfield FoundPart Found FoundField FoundPattern FoundSlice FoundType
  opened_given = map-FieldValue Bitfield ConstraintPart Expr FieldValue Pattern Slice TypeExpr FoundBitfield FoundPart Found FoundField
      FoundPattern FoundSlice FoundType found_bitfield found_part (found v) found_given (found_pattern v) (found_slice v) (found_type v)

  abbrev pub opened_pattern : ex.Pattern-F Bitfield ConstraintPart Expr FieldValue Pattern Slice TypeExpr →
      ex.Pattern-F FoundBitfield FoundPart Found FoundField FoundPattern FoundSlice FoundType
  opened_pattern = map-Pattern Bitfield ConstraintPart Expr FieldValue Pattern Slice TypeExpr FoundBitfield FoundPart Found FoundField
      FoundPattern FoundSlice FoundType found_bitfield found_part (found v) found_given (found_pattern v) (found_slice v) (found_type v)

  abbrev pub opened_slice : ex.Slice-F Bitfield ConstraintPart Expr FieldValue Pattern Slice TypeExpr →
      ex.Slice-F FoundBitfield FoundPart Found FoundField FoundPattern FoundSlice FoundType
  opened_slice = map-Slice Bitfield ConstraintPart Expr FieldValue Pattern Slice TypeExpr FoundBitfield FoundPart Found FoundField
      FoundPattern FoundSlice FoundType found_bitfield found_part (found v) found_given (found_pattern v) (found_slice v) (found_type v)

  abbrev pub opened_type : ex.TypeExpr-F Bitfield ConstraintPart Expr FieldValue Pattern Slice TypeExpr →
      ex.TypeExpr-F FoundBitfield FoundPart Found FoundField FoundPattern FoundSlice FoundType
  opened_type = map-TypeExpr Bitfield ConstraintPart Expr FieldValue Pattern Slice TypeExpr FoundBitfield FoundPart Found FoundField
      FoundPattern FoundSlice FoundType found_bitfield found_part (found v) found_given (found_pattern v) (found_slice v) (found_type v)

module _ (t : Tests) (m : ℕ) (le : t.limit ≤ m) where
  abbrev u : Tests
  u = wide_tests t m le

  abbrev pub BitfieldStays : Bitfield → Type 0
  BitfieldStays x = BitfieldSame (found_bitfield t x) (found_bitfield u x)

  abbrev pub PartStays : ConstraintPart → Type 0
  PartStays x = PartSame (found_part t x) (found_part u x)

  abbrev pub ExprStays : Expr → Type 0
  ExprStays x = FoundStays (found t x) (found u x)

  abbrev pub FieldStays : FieldValue → Type 0
  FieldStays x = GivenStays (found_given t x) (found_given u x)

  abbrev pub MatchStays : Pattern → Type 0
  MatchStays x = PatternStays (found_pattern t x) (found_pattern u x)

  abbrev pub PlaceStays : Slice → Type 0
  PlaceStays x = SliceStays (found_slice t x) (found_slice u x)

  abbrev pub WrittenStays : TypeExpr → Type 0
  WrittenStays x = TypeStays (found_type t x) (found_type u x)

  abbrev shown : Shown
  shown = record {
    of_bitfield = BitfieldStays;
    of_part = PartStays;
    of_expr = ExprStays;
    of_given = FieldStays;
    of_pattern = MatchStays;
    of_slice = PlaceStays;
    of_type = WrittenStays;
  }

  exprs : (es : List ((e : Expr) × ExprStays e)) → Pairs FoundStays (map (found t) (map (λ e. e.0) es)) (map (found u) (map (λ e. e.0) es))
  exprs es = pairs_of FoundStays (found t) (found u) es

  -- ---- each layer

  layer_typed : (y : ExprNode shown) (G : Scope) →
      Stays (typed_rule t (opened_expr t (expr_trees shown y)) G) (typed_rule u (opened_expr u (expr_trees shown y)) G)
  layer_typed (ex.Int span n) G = stays_same _
  layer_typed (ex.Bits span text) G = bits_stays t m le G.class span text
  layer_typed (ex.Bool span b) G = stays_same _
  layer_typed (ex.Name span name) G = stays_same _
  layer_typed (ex.Unary span o a) G = unary_stays (found t a.0) (found u a.0) G (operation G.class span o) a.1
  layer_typed (ex.Binary span o a b) G = binary_stays t m le span o (found t a.0) (found t b.0) (found u a.0) (found u b.0) G a.1 b.1
  layer_typed (ex.Conditional span c a b) G = conditional_stays t m le span (found t c.0) (found u c.0) (found t a.0) (found t b.0)
      (found u a.0) (found u b.0) G c.1 a.1 b.1
  layer_typed (ex.Tuple span es) G = tuple_stays span _ _ G (exprs es)
  layer_typed (ex.Construct span i gs) G = construct_stays t m le span i _ _ G (pairs_of GivenStays (found_given t) (found_given u) gs)
  layer_typed (ex.Call span i ps es) G = call_stays t m le span i _ _ _ _ G (exprs ps) (exprs es)
  layer_typed (ex.Field span a i) G = unary_stays (found t a.0) (found u a.0) G (field_behind G.class span i) a.1
  layer_typed (ex.Fields span a iss) G = unary_stays (found t a.0) (found u a.0) G (bitfields_behind G.class span iss) a.1
  layer_typed (ex.Slices span a ss) G = slices_stay span (found t a.0) (found u a.0) _ _ G a.1
      (pairs_of SliceStays (found_slice t) (found_slice u) ss)
  layer_typed (ex.Element span a i) G = element_stays span (found t a.0) (found u a.0) (found t i.0) (found u i.0) G a.1 i.1
  layer_typed (ex.As span a w) G = as_stays span (found t a.0) (found u a.0) (found_type t w.0) (found_type u w.0) G a.1 w.1
  layer_typed (ex.In span a p) G = in_stays span (found t a.0) (found u a.0) (found_pattern t p.0) (found_pattern u p.0) G a.1 p.1

  layer_width : (y : ExprNode shown) (G : Scope) →
      width_rule (opened_expr u (expr_trees shown y)) G ≡ width_rule (opened_expr t (expr_trees shown y)) G
  layer_width (ex.Unary span unary.Negate a) G =
      ap (λ r. r >>= λ (p : Width). width_difference span (constant_map (pos 0)) p.poly
      >>= λ q. Ok (width_as q (tree.Unary (width_note span) unary.Negate p.tree))) (a.1.width_same G)
  layer_width (ex.Unary span o a) G = refl
  layer_width (ex.Binary span o a b) G = two_width span (joining o) (found t a.0) (found t b.0) (found u a.0) (found u b.0) G a.1 b.1
  layer_width y G = refl

  layer_number : (y : ExprNode shown) (G : Scope) →
      number_rule (opened_expr u (expr_trees shown y)) G ≡ number_rule (opened_expr t (expr_trees shown y)) G
  layer_number (ex.Unary span unary.Negate a) G =
      ap (λ r. r >>= λ (z : Number). held span (pos 0 -ℤ z.number)
      >>= λ n. Ok (number_as n (tree.Unary (width_note span) unary.Negate z.tree))) (a.1.number_same G)
  layer_number (ex.Unary span o a) G = refl
  layer_number (ex.Binary span o a b) G = two_number span (joining o) (found t a.0) (found t b.0) (found u a.0) (found u b.0) G a.1 b.1
  layer_number y G = refl

  layer_atom : (y : ExprNode shown) (G : Scope) →
      atom_rule (opened_expr u (expr_trees shown y)) G ≡ atom_rule (opened_expr t (expr_trees shown y)) G
  layer_atom (ex.Unary span unary.Negate a) G = a.1.atom_same G
  layer_atom (ex.Unary span o a) G = refl
  layer_atom (ex.Binary span o a b) G = two_atom (joining o) (found t a.0) (found t b.0) (found u a.0) (found u b.0) G a.1 b.1
  layer_atom y G = refl

  layer_span : (y : ExprNode shown) → span_of (opened_expr u (expr_trees shown y)) ≡ span_of (opened_expr t (expr_trees shown y))
  layer_span (ex.Int span n) = refl
  layer_span y = refl

  -- a divisor doesn't ask for what is found at parts
  two_divisor : {E F : Type 0} (j : Joining) (a b : E) (c d : F) → divisor (reading_of_two j c d) ≡ divisor (reading_of_two j a b)
  two_divisor (Combines o) a b c d = refl
  two_divisor Divides a b c d = refl
  two_divisor JoinsNothing a b c d = refl

  one_divisor : {E F : Type 0} (o : UnaryOperator) (a : E) (c : F) → divisor (reading_of_one o c) ≡ divisor (reading_of_one o a)
  one_divisor unary.Negate a c = refl
  one_divisor unary.Not a c = refl
  one_divisor unary.Complement a c = refl

  layer_divisor : (y : ExprNode shown) → divisor (arithmetic (opened_expr u (expr_trees shown y))) ≡ divisor (arithmetic
      (opened_expr t (expr_trees shown y)))
  layer_divisor (ex.Unary span o a) = one_divisor o (found t a.0) (found u a.0)
  layer_divisor (ex.Binary span o a b) = two_divisor (joining o) (found t a.0) (found t b.0) (found u a.0) (found u b.0)
  layer_divisor y = refl

  layer_expr : (y : ExprNode shown) → FoundStays (expr_rule t (opened_expr t (expr_trees shown y)))
      (expr_rule u (opened_expr u (expr_trees shown y)))
  layer_expr y = record {
    span_same = layer_span y;
    typed_stays = layer_typed y;
    width_same = layer_width y;
    number_same = layer_number y;
    atom_same = layer_atom y;
    divisor_same = layer_divisor y;
  }

  layer_given : (y : FieldValueNode shown) → GivenStays (given_rule (opened_given t (given_trees shown y)))
      (given_rule (opened_given u (given_trees shown y)))
  layer_given (ex.Given i e) = record { name_same = refl; value_stays = e.1 }

  layer_slice : (y : SliceNode shown) → SliceStays (slice_rule (opened_slice t (slice_trees shown y)))
      (slice_rule (opened_slice u (slice_trees shown y)))
  layer_slice (ex.BitAt e) = record {
    operands_stay = λ G. operands_stay (found t e.0 ∷ []) (found u e.0 ∷ []) G (e.1, tt);
    adds_same = λ x G. refl;
    shape_same = refl;
  }
  layer_slice (ex.HighLow a b) = record {
    operands_stay =
        λ G. operands_stay (found t a.0 ∷ found t b.0 ∷ []) (found u a.0 ∷ found u b.0 ∷ []) G (a.1, (b.1, tt));
    adds_same = λ x G. high_low_adds (found t a.0) (found t b.0) (found u a.0) (found u b.0) x G a.1 b.1;
    shape_same = refl;
  }
  layer_slice (ex.LowWidth a b) = record {
    operands_stay =
        λ G. operands_stay (found t a.0 ∷ found t b.0 ∷ []) (found u a.0 ∷ found u b.0 ∷ []) G (a.1, (b.1, tt));
    adds_same = λ x G. second_adds (found t b.0) (found u b.0) x G b.1;
    shape_same = refl;
  }
  layer_slice (ex.FactorWidth a b) =
      record {
        operands_stay = λ G. operands_stay (found t a.0 ∷ found t b.0 ∷ []) (found u a.0 ∷ found u b.0 ∷ []) G (a.1, (b.1, tt));
        adds_same = λ x G. second_adds (found t b.0) (found u b.0) x G b.1;
        shape_same = refl;
      }

  layer_part : (y : ConstraintPartNode shown) → PartSame (part_rule (opened_part t (part_trees shown y)))
      (part_rule (opened_part u (part_trees shown y)))
  layer_part (ex.Only e) G = only_same (found t e.0) (found u e.0) G e.1
  layer_part (ex.FromTo a b) G = range_same (found t a.0) (found t b.0) (found u a.0) (found u b.0) G a.1 b.1

  layer_bitfield : (y : BitfieldNode shown) → BitfieldSame (bitfield_rule (opened_bitfield t (bitfield_trees shown y)))
      (bitfield_rule (opened_bitfield u (bitfield_trees shown y)))
  layer_bitfield (ex.OneBit e i) G = one_bit_same (found t e.0) (found u e.0) i G e.1
  layer_bitfield (ex.BitRange a b i) G = bit_range_same (found t a.0) (found t b.0) (found u a.0) (found u b.0) i G a.1 b.1

  layer_written : (y : TypeExprNode shown) (outside : Bool) (G : Scope) →
      Stays (written_rule t (opened_type t (type_trees shown y)) outside G) (written_rule u (opened_type u (type_trees shown y)) outside G)
  layer_written (ex.IntegerType span ps) outside G = integer_stays span _ _ G (pairs_of PartSame (found_part t) (found_part u) ps)
  layer_written (ex.BooleanType span) outside G = stays_same _
  layer_written (ex.BitType span) outside G = stays_same _
  layer_written (ex.NamedType span name) outside G = stays_same _
  layer_written (ex.BitsType span w fs) outside G =
      bits_type_stays t m le outside span (found t w.0) (found u w.0) _ _ G w.1
      (pairs_of BitfieldSame (found_bitfield t) (found_bitfield u) fs)
  layer_written (ex.TupleType span ts) outside G = tuple_type_stays outside span _ _ G (pairs_of TypeStays (found_type t) (found_type u) ts)
  layer_written (ex.ArrayType span e w) outside G =
      array_stays outside span (found t e.0) (found u e.0) (found_type t w.0) (found_type u w.0) G e.1 w.1

  layer_type_span : (y : TypeExprNode shown) → type_span (opened_type u (type_trees shown y))
      ≡ type_span (opened_type t (type_trees shown y))
  layer_type_span (ex.BooleanType span) = refl
  layer_type_span y = refl

  layer_type : (y : TypeExprNode shown) → TypeStays (type_rule t (opened_type t (type_trees shown y)))
      (type_rule u (opened_type u (type_trees shown y)))
  layer_type y = record { span_same = layer_type_span y; ty_stays = layer_written y }

  layer_pattern : (y : PatternNode shown) → PatternStays (pattern_rule t (opened_pattern t (pattern_trees shown y)))
      (pattern_rule u (opened_pattern u (pattern_trees shown y)))
  layer_pattern (ex.AnyPattern span) T G = stays_same _
  layer_pattern (ex.SetPattern span b ps) T G = stays_bind _ _ _ _
      (all_match_stay _ _ T G (pairs_of PatternStays (found_pattern t) (found_pattern u) ps)) (λ ms. stays_same (Ok (set_matched b ms)))
  layer_pattern (ex.MaskPattern span text) T G = mask_stays t m le span (literal_digits text) T
  layer_pattern (ex.AtMost span e) T G = stays_bind (pure_typed (found t e.0) G) (pure_typed (found u e.0) G) _ _
      (pure_stays (found t e.0) (found u e.0) G e.1) (λ S. stays_same (end_matched span (shape.at_most span) T S))
  layer_pattern (ex.AtLeast span e) T G = stays_bind (pure_typed (found t e.0) G) (pure_typed (found u e.0) G) _ _
      (pure_stays (found t e.0) (found u e.0) G e.1) (λ S. stays_same (end_matched span (shape.at_least span) T S))
  layer_pattern (ex.TuplePattern span ps) T G = tuple_pattern_stays span _ _ T G
      (pairs_of PatternStays (found_pattern t) (found_pattern u) ps)
  layer_pattern (ex.ValuePattern span e) T G = stays_bind (pure_typed (found t e.0) G) (pure_typed (found u e.0) G) _ _
      (pure_stays (found t e.0) (found u e.0) G e.1) (λ S. stays_same (value_matched t span T S))
  layer_pattern (ex.RangePattern span a b) T G =
      stays_bind (pure_typed (found t a.0) G) (pure_typed (found u a.0) G) _ _ (pure_stays (found t a.0) (found u a.0) G a.1)
      (λ S. stays_bind (pure_typed (found t b.0) G) (pure_typed (found u b.0) G) _ _ (pure_stays (found t b.0) (found u b.0) G b.1)
      (λ U. stays_same (range_matched span T S U)))

  -- ---- by induction over trees

  bitfield_stays_at : (y : BitfieldNode shown) → BitfieldStays (roll-Bitfield (bitfield_trees shown y))
  bitfield_stays_at y = subst (λ (f : FoundBitfield). BitfieldSame f (found_bitfield u (roll-Bitfield (bitfield_trees shown y))))
      (sym (fold-roll-Bitfield FoundBitfield FoundPart Found FoundField FoundPattern FoundSlice FoundType bitfield_rule part_rule
      (expr_rule t) given_rule (pattern_rule t) slice_rule (type_rule t) (bitfield_trees shown y)))
      (subst (λ (g : FoundBitfield). BitfieldSame (bitfield_rule (opened_bitfield t (bitfield_trees shown y))) g)
      (sym (fold-roll-Bitfield FoundBitfield FoundPart Found FoundField FoundPattern FoundSlice FoundType bitfield_rule part_rule
      (expr_rule u) given_rule (pattern_rule u) slice_rule (type_rule u) (bitfield_trees shown y))) (layer_bitfield y))

  part_stays_at : (y : ConstraintPartNode shown) → PartStays (roll-ConstraintPart (part_trees shown y))
  part_stays_at y = subst (λ (f : FoundPart). PartSame f (found_part u (roll-ConstraintPart (part_trees shown y))))
      (sym (fold-roll-ConstraintPart FoundBitfield FoundPart Found FoundField FoundPattern FoundSlice FoundType bitfield_rule part_rule
      (expr_rule t) given_rule (pattern_rule t) slice_rule (type_rule t) (part_trees shown y)))
      (subst (λ (g : FoundPart). PartSame (part_rule (opened_part t (part_trees shown y))) g)
      (sym (fold-roll-ConstraintPart FoundBitfield FoundPart Found FoundField FoundPattern FoundSlice FoundType bitfield_rule part_rule
      (expr_rule u) given_rule (pattern_rule u) slice_rule (type_rule u) (part_trees shown y))) (layer_part y))

  expr_stays_at : (y : ExprNode shown) → ExprStays (roll-Expr (expr_trees shown y))
  expr_stays_at y = subst (λ (f : Found). FoundStays f (found u (roll-Expr (expr_trees shown y))))
      (sym (fold-roll-Expr FoundBitfield FoundPart Found FoundField FoundPattern FoundSlice FoundType bitfield_rule part_rule (expr_rule t)
      given_rule (pattern_rule t) slice_rule (type_rule t) (expr_trees shown y)))
      (subst (λ (g : Found). FoundStays (expr_rule t (opened_expr t (expr_trees shown y))) g)
      (sym (fold-roll-Expr FoundBitfield FoundPart Found FoundField FoundPattern FoundSlice FoundType bitfield_rule part_rule (expr_rule u)
      given_rule (pattern_rule u) slice_rule (type_rule u) (expr_trees shown y))) (layer_expr y))

  given_stays_at : (y : FieldValueNode shown) → FieldStays (roll-FieldValue (given_trees shown y))
  given_stays_at y = subst (λ (f : FoundField). GivenStays f (found_given u (roll-FieldValue (given_trees shown y))))
      (sym (fold-roll-FieldValue FoundBitfield FoundPart Found FoundField FoundPattern FoundSlice FoundType bitfield_rule part_rule
      (expr_rule t) given_rule (pattern_rule t) slice_rule (type_rule t) (given_trees shown y)))
      (subst (λ (g : FoundField). GivenStays (given_rule (opened_given t (given_trees shown y))) g)
      (sym (fold-roll-FieldValue FoundBitfield FoundPart Found FoundField FoundPattern FoundSlice FoundType bitfield_rule part_rule
      (expr_rule u) given_rule (pattern_rule u) slice_rule (type_rule u) (given_trees shown y))) (layer_given y))

  pattern_stays_at : (y : PatternNode shown) → MatchStays (roll-Pattern (pattern_trees shown y))
  pattern_stays_at y = subst (λ (f : FoundPattern). PatternStays f (found_pattern u (roll-Pattern (pattern_trees shown y))))
      (sym (fold-roll-Pattern FoundBitfield FoundPart Found FoundField FoundPattern FoundSlice FoundType bitfield_rule part_rule
      (expr_rule t) given_rule (pattern_rule t) slice_rule (type_rule t) (pattern_trees shown y)))
      (subst (λ (g : FoundPattern). PatternStays (pattern_rule t (opened_pattern t (pattern_trees shown y))) g)
      (sym (fold-roll-Pattern FoundBitfield FoundPart Found FoundField FoundPattern FoundSlice FoundType bitfield_rule part_rule
      (expr_rule u) given_rule (pattern_rule u) slice_rule (type_rule u) (pattern_trees shown y))) (layer_pattern y))

  slice_stays_at : (y : SliceNode shown) → PlaceStays (roll-Slice (slice_trees shown y))
  slice_stays_at y = subst (λ (f : FoundSlice). SliceStays f (found_slice u (roll-Slice (slice_trees shown y))))
      (sym (fold-roll-Slice FoundBitfield FoundPart Found FoundField FoundPattern FoundSlice FoundType bitfield_rule part_rule (expr_rule t)
      given_rule (pattern_rule t) slice_rule (type_rule t) (slice_trees shown y)))
      (subst (λ (g : FoundSlice). SliceStays (slice_rule (opened_slice t (slice_trees shown y))) g)
      (sym (fold-roll-Slice FoundBitfield FoundPart Found FoundField FoundPattern FoundSlice FoundType bitfield_rule part_rule (expr_rule u)
      given_rule (pattern_rule u) slice_rule (type_rule u) (slice_trees shown y))) (layer_slice y))

  type_stays_at : (y : TypeExprNode shown) → WrittenStays (roll-TypeExpr (type_trees shown y))
  type_stays_at y = subst (λ (f : FoundType). TypeStays f (found_type u (roll-TypeExpr (type_trees shown y))))
      (sym (fold-roll-TypeExpr FoundBitfield FoundPart Found FoundField FoundPattern FoundSlice FoundType bitfield_rule part_rule
      (expr_rule t) given_rule (pattern_rule t) slice_rule (type_rule t) (type_trees shown y)))
      (subst (λ (g : FoundType). TypeStays (type_rule t (opened_type t (type_trees shown y))) g)
      (sym (fold-roll-TypeExpr FoundBitfield FoundPart Found FoundField FoundPattern FoundSlice FoundType bitfield_rule part_rule
      (expr_rule u) given_rule (pattern_rule u) slice_rule (type_rule u) (type_trees shown y))) (layer_type y))

  steps_all : Steps shown
  steps_all = record {
    bitfield_has = bitfield_stays_at;
    part_has = part_stays_at;
    expr_has = expr_stays_at;
    given_has = given_stays_at;
    pattern_has = pattern_stays_at;
    slice_has = slice_stays_at;
    type_has = type_stays_at;
  }

  pub expr_stays : (x : Expr) → ExprStays x
  expr_stays = each_expr shown steps_all

  pub type_stays : (x : TypeExpr) → WrittenStays x
  type_stays = each_type shown steps_all

  pub pattern_stays : (x : Pattern) → MatchStays x
  pattern_stays = each_pattern shown steps_all

  pub slice_stays : (x : Slice) → PlaceStays x
  slice_stays = each_slice shown steps_all
