-- What is done with values gives the same under a wider limit, or is too wide under the narrower one.
use Rattle.std.proofs.Common.{◌≡◌, ℕ, zero, suc, ◌+◌, ◌≤◌, ℤ, pos, negsuc, Bool, true, false, cond, List, [], ◌∷◌, ◌++◌, length, Option}
use Rattle.std.proofs.Common.{Some, None, option_map, refl, sym, ap, ap₂, subst}
use Rattle.std.specs.Prelude.{nat_le, replicate, option_and_then}
use Rattle.asl_syn.specs.declared.token.Span.{Span}
use Rattle.asl_syn.specs.declared.code.DynCode.TheVariants.{D01}
use Rattle.asl_syn.specs.declared.tree.BinaryOperator.{BinaryOperator}
use Rattle.asl_syn.specs.declared.tree.BinaryOperator.TheVariants as binary
use Rattle.asl_rules.specs.types.Types.{BitField, View}
use Rattle.asl_rules.specs.types.Closed as cl
use Rattle.asl_rules.specs.types.Closed.{Closed, ClosedParts, ClosedFields, Range, kind_at, first_in}
use Rattle.asl_rules.specs.types.Shapes as shapes
use Rattle.asl_rules.specs.types.Shapes.{SliceShape, PatternShape, PatternShapes, PartShape, BitfieldShape, TypeShape, TypeShapes, anything}
use Rattle.asl_rules.specs.types.Shapes.{one_of, masked, at_most, at_least, in_parts, equal_to, between, no_pattern, pattern_and}
use Rattle.asl_rules.specs.values.Values.{Value, int, bits_with}
use Rattle.asl_rules.specs.runs.Plans.{Faulted, Stuck, WrongKind, Pure, Good, Bad}
use Rattle.asl_rules.specs.runs.Pures.{◌>>=◌, found_type, there}
use Rattle.asl_rules.specs.values.Operators.{in_range, plain_bits, of_bits, binary_value}
use Rattle.asl_rules.specs.values.Structures.{parts}
use Rattle.asl_rules.specs.declarations.Routines.{Routine, Zeros, Ones, ZeroExtend, SignExtend}
use Rattle.asl_rules.specs.values.Library.{copies, extended, routine_value}
use Rattle.asl_rules.specs.values.Vectors.{Slicing, Places, literal_digits, literal_bits, width_of, ranged_width, widths_of, places_of}
use Rattle.asl_rules.specs.values.Vectors.{total_width, within_limit, tested, slicings, slices_of, slice_places, with_slices}
use Rattle.asl_rules.specs.values.Vectors.{places_of_fields, bitfields_of, with_bitfields}
use Rattle.asl_rules.specs.values.Matching.{matches, any_match, all_match, is_matched, value_match}
use Rattle.asl_rules.specs.runs.ByNames.{matched_in}
use Rattle.asl_rules.specs.types.Written.{Sized, SizedParts, SizedView, first_bits, first_elements, first_value, first_fields, first_parts}
use Rattle.asl_rules.specs.types.Written.{filled, parts_filled, bits_filled, width_filled, all_bitfields, with_part, first_part}
use Rattle.asl_rules.specs.types.Written.{tuple_filled, array_filled, by_length, sized, type_of_sized, converted, of_kind_of}
use Rattle.asl_laws.proofs.wider.Steps.{Wider, wider_same, wider_equal, wider_narrow, wider_bind, wider_step, wider_cond, within_both}
use Rattle.asl_laws.proofs.wider.Steps.{limit_wider}

module _ (l m : ℕ) (le : l ≤ m) where
  -- ---- widths and places

  width_wider : (span : Span) (w : ℤ) → Wider (width_of l span w) (width_of m span w)
  width_wider span (pos n) = limit_wider l m le n span (Good n)
  width_wider span (negsuc n) = wider_same (width_of l span (negsuc n))

  ranged_wider : (span : Span) (w : ℤ) → Wider (ranged_width l span w) (ranged_width m span w)
  ranged_wider span w = wider_cond (in_range w) (width_of l span w) (width_of m span w) (Bad (Faulted D01 span)) (Bad (Faulted D01 span))
      (width_wider span w) (wider_same _)

  widths_wider : (span : Span) (ss : List Slicing) → Wider (widths_of l span ss) (widths_of m span ss)
  widths_wider span [] = wider_same (widths_of l span [])
  widths_wider span (s ∷ ss) = wider_bind (ranged_width l span s.width) (ranged_width m span s.width) _ _ (ranged_wider span s.width)
      (λ w. wider_bind (widths_of l span ss) (widths_of m span ss) _ _ (widths_wider span ss) (λ ws. wider_same _))

  within_wider : (span : Span) (ps : List Places) → Wider (within_limit l span ps) (within_limit m span ps)
  within_wider span ps = limit_wider l m le (total_width ps) span (Good ps)

  tested_wider : (span : Span) (top : Option ℕ) (o : Option (List Slicing)) → Wider (tested l span top o) (tested m span top o)
  tested_wider span top None = wider_same (tested l span top None)
  tested_wider span top (Some ss) = wider_bind (widths_of l span ss) (widths_of m span ss) _ _ (widths_wider span ss)
      (λ ws. wider_step (places_of span top ws) _ _ (λ ps. within_wider span ps))

  pub slices_wider : (span : Span) (ss : List SliceShape) (xs : List Value) (x : Value) →
      Wider (slices_of l span ss xs x) (slices_of m span ss xs x)
  slices_wider span ss xs (bits_with bs v) = wider_bind (tested l span (Some (length bs)) (slicings ss xs))
      (tested m span (Some (length bs)) (slicings ss xs)) _ _ (tested_wider span (Some (length bs)) (slicings ss xs)) (λ ps. wider_same _)
  slices_wider span ss xs (int z) = wider_bind (tested l span None (slicings ss xs)) (tested m span None (slicings ss xs)) _ _
      (tested_wider span None (slicings ss xs)) (λ ps. wider_same _)
  slices_wider span ss xs x = wider_same (slices_of l span ss xs x)

  pub slice_places_wider : (span : Span) (ss : List SliceShape) (xs : List Value) (x : Value) →
      Wider (slice_places l span ss xs x) (slice_places m span ss xs x)
  slice_places_wider span ss xs (bits_with bs v) = tested_wider span (Some (length bs)) (slicings ss xs)
  slice_places_wider span ss xs x = wider_same (slice_places l span ss xs x)

  pub with_slices_wider : (span : Span) (ss : List SliceShape) (xs : List Value) (y x : Value) →
      Wider (with_slices l span ss xs y x) (with_slices m span ss xs y x)
  with_slices_wider span ss xs y x = wider_bind (slice_places l span ss xs x) (slice_places m span ss xs x) _ _
      (slice_places_wider span ss xs x) (λ ps. wider_same _)

  pub bitfields_wider : (span : Span) (fs : List BitField) (x : Value) → Wider (bitfields_of l span fs x) (bitfields_of m span fs x)
  bitfields_wider span fs x = wider_bind (within_limit l span (places_of_fields fs)) (within_limit m span (places_of_fields fs)) _ _
      (within_wider span (places_of_fields fs)) (λ ps. wider_same _)

  pub with_bitfields_wider : (span : Span) (fs : List BitField) (y x : Value) →
      Wider (with_bitfields l span fs y x) (with_bitfields m span fs y x)
  with_bitfields_wider span fs y x = wider_bind (within_limit l span (places_of_fields fs)) (within_limit m span (places_of_fields fs)) _ _
      (within_wider span (places_of_fields fs)) (λ ps. wider_same _)

  -- ---- literals and operators

  -- a literal that is too wide has no value
  literal_by : (b c : Bool) (span : Span) (o : Option (List Bool)) → (b ≡ true → c ≡ true) →
      (let f = λ (z : Option (List Bool)). there span (option_map plain_bits z) in Wider (f (cond b o None)) (f (cond c o None)))
  literal_by true true span o h = wider_same _
  literal_by true false span o h = elim (no_true (h refl)) [ ]
    where
      no_true : false ≡ true → ⊥
      no_true h = cc
  literal_by false c span o h = wider_narrow (Stuck WrongKind span) _ tt

  pub literal_wider : (span : Span) (t : List ℕ) → Wider (literal_bits l span t) (literal_bits m span t)
  literal_wider span t = literal_by (nat_le (length (literal_digits t)) l) (nat_le (length (literal_digits t)) m) span _
      (within_both l m le (length (literal_digits t)))

  of_bits_wider : (span : Span) (o : BinaryOperator) (a b : List Bool) → Wider (of_bits l span o a b) (of_bits m span o a b)
  of_bits_wider span binary.Concatenate a b = limit_wider l m le (length a + length b) span (Good (plain_bits (b ++ a)))
  of_bits_wider span o a b = wider_same (of_bits l span o a b)

  pub binary_wider : (span : Span) (o : BinaryOperator) (x y : Value) → Wider (binary_value l span o x y) (binary_value m span o x y)
  binary_wider span o (bits_with a u) (bits_with b v) = of_bits_wider span o a b
  binary_wider span o x y = wider_same (binary_value l span o x y)

  -- ---- the library

  copies_wider : (span : Span) (b : Bool) (w : ℤ) → Wider (copies l span b w) (copies m span b w)
  copies_wider span b w = wider_bind (width_of l span w) (width_of m span w) _ _ (width_wider span w) (λ n. wider_same _)

  extended_wider : (span : Span) (signed : Bool) (w : ℤ) (bs : List Bool) →
      Wider (extended l span signed w bs) (extended m span signed w bs)
  extended_wider span signed w bs = wider_bind (width_of l span w) (width_of m span w) _ _ (width_wider span w) (λ n. wider_same _)

  pub routine_wider : (span : Span) (r : Routine) (ps xs : List Value) → Wider (routine_value l span r ps xs) (routine_value m span r ps xs)
  routine_wider span Zeros (int w ∷ []) [] = copies_wider span false w
  routine_wider span Ones (int w ∷ []) [] = copies_wider span true w
  routine_wider span ZeroExtend (int w ∷ []) (bits_with bs v ∷ []) = extended_wider span false w bs
  routine_wider span SignExtend (int w ∷ []) (bits_with bs v ∷ []) = extended_wider span true w bs
  routine_wider span r ps xs = wider_same (routine_value l span r ps xs)

  -- ---- patterns

  value_match_wider : (span : Span) (x : Value) (zs : List Value) → Wider (value_match l span x zs) (value_match m span x zs)
  value_match_wider span x (y ∷ zs) = wider_bind (binary_value l span binary.Equal x y) (binary_value m span binary.Equal x y) _ _
      (binary_wider span binary.Equal x y) (λ r. wider_same _)
  value_match_wider span x [] = wider_same (value_match l span x [])

  mutual
    matches_wider : (p : PatternShape) (x : Value) (zs : List Value) → Wider (matches l p x zs) (matches m p x zs)
    matches_wider (one_of negated ps) x zs = wider_bind (any_match l ps x zs) (any_match m ps x zs) _ _ (any_wider ps x zs)
        (λ n. wider_same _)
    matches_wider (in_parts span ps) x zs = wider_step (parts span x) _ _ (λ xs. all_wider span ps xs zs)
    matches_wider (equal_to span) x zs = value_match_wider span x zs
    matches_wider anything x zs = wider_same _
    matches_wider (masked span ms) x zs = wider_same _
    matches_wider (at_most span) x zs = wider_same _
    matches_wider (at_least span) x zs = wider_same _
    matches_wider (between span) x zs = wider_same _

    any_wider : (ps : PatternShapes) (x : Value) (zs : List Value) → Wider (any_match l ps x zs) (any_match m ps x zs)
    any_wider no_pattern x zs = wider_same _
    any_wider (pattern_and p ps) x zs = wider_bind (matches l p x zs) (matches m p x zs) _ _ (matches_wider p x zs)
        (λ n. wider_bind (any_match l ps x n.left) (any_match m ps x n.left) _ _ (any_wider ps x n.left) (λ k. wider_same _))

    all_wider : (span : Span) (ps : PatternShapes) (xs zs : List Value) → Wider (all_match l span ps xs zs) (all_match m span ps xs zs)
    all_wider span no_pattern [] zs = wider_same _
    all_wider span no_pattern (x ∷ xs) zs = wider_same _
    all_wider span (pattern_and p ps) [] zs = wider_same _
    all_wider span (pattern_and p ps) (x ∷ xs) zs =
        wider_bind (matches l p x zs) (matches m p x zs) _ _ (matches_wider p x zs)
        (λ n. wider_bind (all_match l span ps xs n.left) (all_match m span ps xs n.left) _ _ (all_wider span ps xs n.left)
        (λ k. wider_same _))

  pub is_matched_wider : (ps : PatternShapes) (zs : List Value) (x : Value) → Wider (is_matched l ps zs x) (is_matched m ps zs x)
  is_matched_wider ps zs x = wider_bind (any_match l ps x zs) (any_match m ps x zs) _ _ (any_wider ps x zs) (λ n. wider_same _)

  pub matched_in_wider : (p : PatternShape) (zs : List Value) (x : Value) → Wider (matched_in l p zs x) (matched_in m p zs x)
  matched_in_wider p zs x = wider_bind (is_matched l (pattern_and p no_pattern) zs x) (is_matched m (pattern_and p no_pattern) zs x) _ _
      (is_matched_wider (pattern_and p no_pattern) zs x) (λ b. wider_same _)

  -- ---- the values that variables begin with

  first_bits_wider : (span : Span) (w : ℤ) (u : View) → Wider (first_bits l span w u) (first_bits m span w u)
  first_bits_wider span (pos n) u = limit_wider l m le n span (Good (bits_with (replicate n false) u))
  first_bits_wider span (negsuc n) u = wider_same _

  elements_wider : (n : ℕ) (k : _) (r s : Pure Value) → Wider r s → Wider (first_elements n k r) (first_elements n k s)
  elements_wider zero k r s h = wider_same _
  elements_wider (suc n) k r s h = wider_bind r s _ _ h (λ x. wider_same _)

  mutual
    pub first_wider : (span : Span) (T : Closed) → Wider (first_value l span T) (first_value m span T)
    first_wider span (cl.integer_in c) = wider_same _
    first_wider span cl.boolean = wider_same _
    first_wider span (cl.bits_of w u) = first_bits_wider span w u
    first_wider span (cl.enumeration_of name labels) = wider_same _
    first_wider span (cl.record_of name fs) = wider_bind (first_fields l span fs) (first_fields m span fs) _ _ (fields_wider span fs)
        (λ xs. wider_same _)
    first_wider span (cl.exception_of name fs) = wider_bind (first_fields l span fs) (first_fields m span fs) _ _ (fields_wider span fs)
        (λ xs. wider_same _)
    first_wider span (cl.tuple_of ts) = wider_bind (first_parts l span ts) (first_parts m span ts) _ _ (parts_wider span ts)
        (λ xs. wider_same _)
    first_wider span (cl.array_of n k T) = elements_wider n k (first_value l span T) (first_value m span T) (first_wider span T)
    first_wider span (cl.named name supers T) = wider_bind (first_value l span T) (first_value m span T) _ _ (first_wider span T)
        (λ x. wider_same _)

    fields_wider : (span : Span) (fs : ClosedFields) → Wider (first_fields l span fs) (first_fields m span fs)
    fields_wider span cl.no_field = wider_same _
    fields_wider span (cl.field f T fs) = wider_bind (first_value l span T) (first_value m span T) _ _ (first_wider span T)
        (λ x. wider_bind (first_fields l span fs) (first_fields m span fs) _ _ (fields_wider span fs) (λ xs. wider_same _))

    parts_wider : (span : Span) (ts : ClosedParts) → Wider (first_parts l span ts) (first_parts m span ts)
    parts_wider span cl.no_part = wider_same _
    parts_wider span (cl.part T ts) = wider_bind (first_value l span T) (first_value m span T) _ _ (first_wider span T)
        (λ x. wider_bind (first_parts l span ts) (first_parts m span ts) _ _ (parts_wider span ts) (λ xs. wider_same _))

  -- ---- written types with the values of their expressions: the same type and the same values left

  pub record SizedWider (s q : Sized) : Type 0 where
    pub type_same : q.type_is ≡ s.type_is
    pub left_same : q.left ≡ s.left
    pub first_wider : Wider s.first q.first

  abbrev pub SizedSame : Option Sized → Option Sized → Type 0
  SizedSame None None = Unit {0}
  SizedSame (Some s) (Some q) = SizedWider s q
  SizedSame None (Some q) = ⊥
  SizedSame (Some s) None = ⊥

  record PartsWider (s q : SizedParts) : Type 0 where
    parts_same : q.parts ≡ s.parts
    left_same : q.left ≡ s.left
    first_wider : Wider s.first q.first

  abbrev PartsSame : Option SizedParts → Option SizedParts → Type 0
  PartsSame None None = Unit {0}
  PartsSame (Some s) (Some q) = PartsWider s q
  PartsSame None (Some q) = ⊥
  PartsSame (Some s) None = ⊥

  sized_self : (o : Option Sized) → SizedSame o o
  sized_self None = tt
  sized_self (Some s) = record { type_same = refl; left_same = refl; first_wider = wider_same s.first }

  bits_filled_same : (span : Span) (w : ℤ) (u : View) (zs : List Value) → SizedSame (bits_filled l span w u zs) (bits_filled m span w u zs)
  bits_filled_same span w u zs = record { type_same = refl; left_same = refl; first_wider = first_bits_wider span w u }

  view_same : (span : Span) (w : ℤ) (o : Option SizedView) →
      SizedSame (option_and_then (λ (v : SizedView). bits_filled l span w v.view v.left) o)
      (option_and_then (λ (v : SizedView). bits_filled m span w v.view v.left) o)
  view_same span w None = tt
  view_same span w (Some v) = bits_filled_same span w v.view v.left

  width_filled_same : (span : Span) (fs : List BitfieldShape) (zs : List Value) →
      SizedSame (width_filled l span fs zs) (width_filled m span fs zs)
  width_filled_same span fs (int w ∷ zs) = view_same span w (all_bitfields fs zs)
  width_filled_same span fs zs = sized_self (width_filled l span fs zs)

  tuple_same : (o p : Option SizedParts) → PartsSame o p → SizedSame (tuple_filled o) (tuple_filled p)
  tuple_same None None h = tt
  tuple_same (Some s) (Some q) h = record {
    type_same = ap cl.tuple_of h.parts_same;
    left_same = h.left_same;
    first_wider = wider_bind s.first q.first _ _ h.first_wider (λ xs. wider_same _);
  }
  tuple_same None (Some q) h = absurd h
  tuple_same (Some s) None h = absurd h

  array_same : (n : ℕ) (o p : Option Sized) → SizedSame o p → SizedSame (array_filled n o) (array_filled n p)
  array_same n None None h = tt
  array_same n (Some s) (Some q) h = record {
    type_same = ap (λ T. cl.array_of n (kind_at T) T) h.type_same;
    left_same = h.left_same;
    first_wider = subst (λ T. Wider (first_elements n (kind_at s.type_is) s.first) (first_elements n (kind_at T) q.first)) (sym h.type_same)
        (elements_wider n (kind_at s.type_is) s.first q.first h.first_wider);
  }
  array_same n None (Some q) h = absurd h
  array_same n (Some s) None h = absurd h

  length_same : (zs : List Value) (f g : List Value → Option Sized) → ((ys : List Value) → SizedSame (f ys) (g ys)) →
      SizedSame (by_length zs f) (by_length zs g)
  length_same (int (pos n) ∷ zs) f g h = array_same n (f zs) (g zs) (h zs)
  length_same zs f g h = sized_self (by_length zs f)

  with_part_same : (s q : Sized) (o p : Option SizedParts) → SizedWider s q → PartsSame o p → PartsSame (with_part s o) (with_part q p)
  with_part_same s q None None h k = tt
  with_part_same s q (Some a) (Some b) h k = record {
    parts_same = ap₂ cl.part h.type_same k.parts_same;
    left_same = k.left_same;
    first_wider = wider_bind s.first q.first _ _ h.first_wider (λ x. wider_bind a.first b.first _ _ k.first_wider (λ xs. wider_same _));
  }
  with_part_same s q None (Some b) h k = absurd k
  with_part_same s q (Some a) None h k = absurd k

  part_same : (o p : Option Sized) (f g : List Value → Option SizedParts) → SizedSame o p → ((ys : List Value) → PartsSame (f ys) (g ys)) →
      PartsSame (first_part o f) (first_part p g)
  part_same None None f g h k = tt
  part_same (Some s) (Some q) f g h k = with_part_same s q (f s.left) (g q.left) h
      (subst (λ ys. PartsSame (f s.left) (g ys)) (sym h.left_same) (k s.left))
  part_same None (Some q) f g h k = absurd h
  part_same (Some s) None f g h k = absurd h

  mutual
    filled_same : (whole : Span) (t : TypeShape) (zs : List Value) → SizedSame (filled l whole t zs) (filled m whole t zs)
    filled_same whole (shapes.integer_of ps) zs = sized_self (filled l whole (shapes.integer_of ps) zs)
    filled_same whole shapes.boolean zs = sized_self (filled l whole shapes.boolean zs)
    filled_same whole (shapes.one_bit span) zs = bits_filled_same span (pos 1) [] zs
    filled_same whole (shapes.bits_of span fs) zs = width_filled_same span fs zs
    filled_same whole (shapes.known T) zs = record { type_same = refl; left_same = refl; first_wider = first_wider whole T }
    filled_same whole (shapes.tuple_of ts) zs = tuple_same (parts_filled l whole ts zs) (parts_filled m whole ts zs)
        (parts_filled_same whole ts zs)
    filled_same whole (shapes.array_of t) zs = length_same zs (filled l whole t) (filled m whole t) (filled_same whole t)

    parts_filled_same : (whole : Span) (ts : TypeShapes) (zs : List Value) →
        PartsSame (parts_filled l whole ts zs) (parts_filled m whole ts zs)
    parts_filled_same whole shapes.no_shape zs = record { parts_same = refl; left_same = refl; first_wider = wider_same _ }
    parts_filled_same whole (shapes.shape_and t ts) zs =
        part_same (filled l whole t zs) (filled m whole t zs) (parts_filled l whole ts) (parts_filled m whole ts) (filled_same whole t zs)
        (parts_filled_same whole ts)

  pub sized_same : (whole : Span) (zs : List Value) (o : Option TypeShape) → SizedSame (sized l whole zs o) (sized m whole zs o)
  sized_same whole zs None = tt
  sized_same whole zs (Some t) = filled_same whole t zs

  type_same_of : (o p : Option Sized) → SizedSame o p → type_of_sized p ≡ type_of_sized o
  type_same_of None None h = refl
  type_same_of (Some s) (Some q) h = ap Some h.type_same
  type_same_of None (Some q) h = absurd h
  type_same_of (Some s) None h = absurd h

  pub sized_type : (whole : Span) (zs : List Value) (o : Option TypeShape) →
      type_of_sized (sized m whole zs o) ≡ type_of_sized (sized l whole zs o)
  sized_type whole zs o = type_same_of (sized l whole zs o) (sized m whole zs o) (sized_same whole zs o)

  pub converted_wider : (span : Span) (o : Option TypeShape) (zs : List Value) (x : Value) →
      Wider (converted l span o zs x) (converted m span o zs x)
  converted_wider span o zs x = wider_equal _ _ (ap (λ p. found_type span p >>= λ T. of_kind_of span T x) (sized_type span zs o))
