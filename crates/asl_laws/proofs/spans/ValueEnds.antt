-- What operators and the other steps of evaluation give ends, where it gives no value, at the place that they are given.
use Rattle.std.proofs.Common.{ℕ, zero, suc, Bool, true, false, List, [], ◌∷◌, Option, Some, None}
use Rattle.std.specs.Prelude.{ℤ, pos, negsuc, if◌then◌else◌}
use Rattle.asl_syn.specs.declared.token.Span.{Span}
use Rattle.asl_syn.specs.declared.code.Fault.{Fault}
use Rattle.asl_syn.specs.declared.tree.Ident.{Ident}
use Rattle.asl_syn.specs.declared.tree.UnaryOperator.{UnaryOperator}
use Rattle.asl_syn.specs.declared.tree.UnaryOperator.TheVariants as unary
use Rattle.asl_syn.specs.declared.tree.BinaryOperator.{BinaryOperator}
use Rattle.asl_syn.specs.declared.tree.BinaryOperator.TheVariants as binary
use Rattle.asl_rules.specs.types.Closed as cl
use Rattle.asl_rules.specs.types.Closed.{Closed, ClosedParts}
use Rattle.asl_rules.specs.types.Types.{View}
use Rattle.asl_rules.specs.values.Values.{Value, int, bool, bits_with, label, record_with, exception_with, tuple_with, array_with}
use Rattle.asl_rules.specs.types.Types.{Kind}
use Rattle.asl_rules.specs.runs.Plans.{Mistake, End, Faulted, Stuck, Pure, Good, Bad}
use Rattle.asl_rules.specs.runs.Pures.{◌>>=◌, or_stuck}
use Rattle.asl_rules.specs.types.Shapes.{SliceShape, TypeShape, PatternShape, PatternShapes, anything, one_of, masked, at_most, at_least, in_parts, equal_to, between, no_pattern, pattern_and}
use Rattle.asl_rules.specs.values.Operators.{divided, raised, of_integers, of_booleans, of_labels, of_one_enumeration, of_bits, of_bits_and_integer, binary_value, unary_value, truth}
use Rattle.asl_rules.specs.values.Structures.{inside, value_at, element_of, field_of, built, construct, constructed, parts}
use Rattle.asl_rules.specs.values.Vectors.{Slicing, Wide, Places, width_of, widths_of, low_of, places_of, tested, slices_of, bits_at, each_named}
use Rattle.asl_rules.specs.types.Written.{first_integer, first_bits, first_elements, first_value, first_fields, first_parts, converted}
use Rattle.asl_rules.specs.values.Matching.{Matched, mask_match, value_match, at_most_match, at_least_match, range_match, negated_or, matches, any_match, all_match, is_matched}
use Rattle.asl_rules.specs.runs.ByNames.{matched_in}
use Rattle.asl_rules.specs.declarations.Declarations.{evaluated}
use Rattle.asl_laws.proofs.spans.Standing.{Stands}

module _ (P : Span → Type 0) where
  abbrev pub EndAt : End → Type 0
  EndAt (Faulted code span) = P span
  EndAt (Stuck mistake span) = P span

  -- a value, or an end at such a span
  abbrev pub Ends : {A : Type 0} → Pure A → Type 0
  Ends (Good x) = Unit {0}
  Ends (Bad e) = EndAt e

  -- a fault at such a span
  abbrev pub FaultAt : Fault → Type 0
  FaultAt f = P f.span

  pub evaluated_stands : (r : Pure Value) → Ends r → Stands FaultAt (evaluated r)
  evaluated_stands (Good x) h = tt
  evaluated_stands (Bad (Faulted code span)) h = record { has = h }
  evaluated_stands (Bad (Stuck mistake span)) h = record { has = h }

  -- ---- steps

  pub step_ends : {A B : Type 0} (r : Pure A) (f : A → Pure B) → Ends r → ((x : A) → Ends (f x)) → Ends (r >>= f)
  step_ends (Good x) f h k = k x
  step_ends (Bad e) f h k = h

  pub stuck_at : {A : Type 0} (mistake : Mistake) (span : Span) (o : Option A) → P span → Ends (or_stuck mistake span o)
  stuck_at mistake span None p = p
  stuck_at mistake span (Some x) p = tt

  pub either_ends : {A : Type 0} (b : Bool) (r s : Pure A) → Ends r → Ends s → Ends (if b then r else s)
  either_ends true r s h k = h
  either_ends false r s h k = k

pub ruleset ends = (step_ends, stuck_at, either_ends)

module _ (P : Span → Type 0) where
  -- ---- operators

  divided_ends : (span : Span) (z : ℤ) (f : ℕ → Pure Value) → P span → ((n : ℕ) → Ends P (f n)) → Ends P (divided span z f)
  divided_ends span (pos n) f p h = search (ends, h)
  divided_ends span (negsuc n) f p h = p

  raised_ends : (span : Span) (z : ℤ) (f : ℕ → Pure Value) → P span → ((n : ℕ) → Ends P (f n)) → Ends P (raised span z f)
  raised_ends span (pos n) f p h = h n
  raised_ends span (negsuc n) f p h = p

  integers_end : (span : Span) (o : BinaryOperator) (a b : ℤ) → P span → Ends P (of_integers span o a b)
  integers_end span binary.DivideExact a b p = search (ends, divided_ends)
  integers_end span binary.DivideFloor a b p = search (ends, divided_ends)
  integers_end span binary.Modulo a b p = search (ends, divided_ends)
  integers_end span binary.ShiftLeft a b p = search (ends, raised_ends)
  integers_end span binary.ShiftRight a b p = search (ends, raised_ends)
  integers_end span binary.Power a b p = search (ends, raised_ends)
  integers_end span o a b p = search ends

  booleans_end : (span : Span) (o : BinaryOperator) (a b : Bool) → P span → Ends P (of_booleans span o a b)
  booleans_end span binary.LogicalAnd a b p = tt
  booleans_end span o a b p = search

  labels_end : (span : Span) (o : BinaryOperator) (same : Bool) → P span → Ends P (of_labels span o same)
  labels_end span binary.Equal same p = tt
  labels_end span o same p = search

  enumeration_ends : (span : Span) (o : BinaryOperator) (b same : Bool) → P span → Ends P (of_one_enumeration span o b same)
  enumeration_ends span o true same p = labels_end span o same p
  enumeration_ends span o false same p = p

  bits_end : (limit : ℕ) (span : Span) (o : BinaryOperator) (a b : List Bool) → P span → Ends P (of_bits limit span o a b)
  bits_end limit span binary.Concatenate a b p = search ends
  bits_end limit span o a b p = search ends

  bits_and_integer_end : (span : Span) (o : BinaryOperator) (a : List Bool) (z : ℤ) → P span → Ends P (of_bits_and_integer span o a z)
  bits_and_integer_end span binary.Add a z p = tt
  bits_and_integer_end span o a z p = search

  pub binary_ends : (limit : ℕ) (span : Span) (o : BinaryOperator) (x y : Value) → P span → Ends P (binary_value limit span o x y)
  binary_ends limit span o (int a) (int b) p = integers_end span o a b p
  binary_ends limit span o (bool a) (bool b) p = booleans_end span o a b p
  binary_ends limit span o (bits_with a u) (bits_with b v) p = bits_end limit span o a b p
  binary_ends limit span o (bits_with a u) (int z) p = bits_and_integer_end span o a z p
  binary_ends limit span o (label m a) (label n b) p = enumeration_ends span o _ _ p
  binary_ends limit span o x y p = p

  pub unary_ends : (span : Span) (o : UnaryOperator) (x : Value) → P span → Ends P (unary_value span o x)
  unary_ends span unary.Negate (int a) p = search ends
  unary_ends span unary.Not (bool a) p = tt
  unary_ends span unary.Complement (bits_with a v) p = tt
  unary_ends span o x p = search

  pub truth_ends : (span : Span) (x : Value) → P span → Ends P (truth span x)
  truth_ends span (bool b) p = tt
  truth_ends span x p = p

  -- ---- parts of values

  inside_ends : {A : Type 0} (span : Span) (o : Option A) → P span → Ends P (inside span o)
  inside_ends span None p = p
  inside_ends span (Some x) p = tt

  pub element_ends : (span : Span) (x i : Value) → P span → Ends P (element_of span x i)
  element_ends span (array_with k xs) (int (pos i)) p = inside_ends span (value_at i xs) p
  element_ends span x i p = search

  pub field_ends : (span : Span) (f : List ℕ) (x : Value) → P span → Ends P (field_of span f x)
  field_ends span f (record_with name xs) p = search ends
  field_ends span f (exception_with own supers name xs) p = search ends
  field_ends span f (bits_with bs v) p = search ends
  field_ends span f x p = p

  built_ends : (span : Span) (own : List ℕ) (supers : List (List ℕ)) (T : Closed) (gs : List (List ℕ)) (xs : List Value) → P span → Ends P (built span own supers T gs xs)
  built_ends span own supers (cl.record_of name fs) gs xs p = search ends
  built_ends span own supers (cl.exception_of name fs) gs xs p = search ends
  built_ends span own supers (cl.named name others T) gs xs p = built_ends span own supers T gs xs p
  built_ends span own supers T gs xs p = p

  construct_ends : (span : Span) (T : Closed) (gs : List (List ℕ)) (xs : List Value) → P span → Ends P (construct span T gs xs)
  construct_ends span (cl.named name supers T) gs xs p = built_ends span name supers T gs xs p
  construct_ends span T gs xs p = search (ends, p)

  pub constructed_ends : (span : Span) (o : Option Closed) (gs : List (List ℕ)) (xs : List Value) → P span → Ends P (constructed span o gs xs)
  constructed_ends span o gs xs p = search (ends, construct_ends)

  parts_end : (span : Span) (x : Value) → P span → Ends P (parts span x)
  parts_end span (tuple_with xs) p = tt
  parts_end span x p = p

  -- ---- bits

  width_ends : (limit : ℕ) (span : Span) (z : ℤ) → P span → Ends P (width_of limit span z)
  width_ends limit span (pos w) p = search ends
  width_ends limit span (negsuc w) p = p

  widths_end : (limit : ℕ) (span : Span) (ss : List Slicing) → P span → Ends P (widths_of limit span ss)
  widths_end limit span [] p = tt
  widths_end limit span (s ∷ ss) p = search (ends, width_ends, widths_end limit span ss p)

  low_ends : (span : Span) (top : Option ℕ) (z : ℤ) (w : ℕ) → P span → Ends P (low_of span top z w)
  low_ends span top (pos l) w p = search ends
  low_ends span top (negsuc l) w p = p

  places_end : (span : Span) (top : Option ℕ) (ss : List Wide) → P span → Ends P (places_of span top ss)
  places_end span top [] p = tt
  places_end span top (s ∷ ss) p = search (ends, low_ends, places_end span top ss p)

  tested_ends : (limit : ℕ) (span : Span) (top : Option ℕ) (o : Option (List Slicing)) → P span → Ends P (tested limit span top o)
  tested_ends limit span top None p = p
  tested_ends limit span top (Some ss) p = search (ends, widths_end, places_end)

  pub slices_end : (limit : ℕ) (span : Span) (ss : List SliceShape) (xs : List Value) (x : Value) → P span → Ends P (slices_of limit span ss xs x)
  slices_end limit span ss xs (bits_with bs v) p = search (ends, tested_ends)
  slices_end limit span ss xs (int z) p = search (ends, tested_ends)
  slices_end limit span ss xs x p = p

  pub bits_at_ends : (span : Span) (ps : List Places) (x : Value) → P span → Ends P (bits_at span ps x)
  bits_at_ends span ps (bits_with bs v) p = tt
  bits_at_ends span ps x p = p

  pub each_ends : (span : Span) (is : List Ident) (v : View) → P span → Ends P (each_named span is v)
  each_ends span [] v p = tt
  each_ends span (i ∷ is) v p = search (ends, each_ends span is v p)

  -- ---- types

  pub converted_ends : (limit : ℕ) (span : Span) (o : Option TypeShape) (zs : List Value) (x : Value) → P span → Ends P (converted limit span o zs x)
  converted_ends limit span o zs x p = search ends

  first_integer_ends : (span : Span) (o : Option ℤ) → P span → Ends P (first_integer span o)
  first_integer_ends span None p = p
  first_integer_ends span (Some z) p = tt

  first_bits_end : (limit : ℕ) (span : Span) (w : ℤ) (u : View) → P span → Ends P (first_bits limit span w u)
  first_bits_end limit span (pos w) u p = search ends
  first_bits_end limit span (negsuc w) u p = p

  first_elements_end : (n : ℕ) (k : Kind) (r : Pure Value) → Ends P r → Ends P (first_elements n k r)
  first_elements_end zero k r h = tt
  first_elements_end (suc n) k r h = step_ends P r _ h (λ x. tt)

  mutual
    pub first_ends : (limit : ℕ) (span : Span) (T : Closed) → P span → Ends P (first_value limit span T)
    first_ends limit span (cl.integer_in c) p = first_integer_ends span _ p
    first_ends limit span cl.boolean p = tt
    first_ends limit span (cl.bits_of w u) p = first_bits_end limit span w u p
    first_ends limit span (cl.enumeration_of name labels) p = tt
    first_ends limit span (cl.record_of name fs) p = step_ends P (first_fields limit span fs) _ (first_fields_end limit span fs p) (λ xs. tt)
    first_ends limit span (cl.exception_of name fs) p = step_ends P (first_fields limit span fs) _ (first_fields_end limit span fs p) (λ xs. tt)
    first_ends limit span (cl.tuple_of ts) p = step_ends P (first_parts limit span ts) _ (first_parts_end limit span ts p) (λ xs. tt)
    first_ends limit span (cl.array_of n k T) p = first_elements_end n k (first_value limit span T) (first_ends limit span T p)
    first_ends limit span (cl.named name supers T) p = step_ends P (first_value limit span T) _ (first_ends limit span T p) (λ x. tt)

    first_fields_end : (limit : ℕ) (span : Span) (fs : cl.ClosedFields) → P span → Ends P (first_fields limit span fs)
    first_fields_end limit span cl.no_field p = tt
    first_fields_end limit span (cl.field f T fs) p = step_ends P (first_value limit span T) _ (first_ends limit span T p) (λ x. step_ends P (first_fields limit span fs) _ (first_fields_end limit span fs p) (λ xs. tt))

    first_parts_end : (limit : ℕ) (span : Span) (ts : ClosedParts) → P span → Ends P (first_parts limit span ts)
    first_parts_end limit span cl.no_part p = tt
    first_parts_end limit span (cl.part T ts) p = step_ends P (first_value limit span T) _ (first_ends limit span T p) (λ x. step_ends P (first_parts limit span ts) _ (first_parts_end limit span ts p) (λ xs. tt))

  -- ---- patterns, whose own places stand in their shapes

  abbrev mutual
    pub ShapeStands : PatternShape → Type 0
    ShapeStands anything = Unit {0}
    ShapeStands (one_of negated ps) = ShapesStand ps
    ShapeStands (masked span ms) = P span
    ShapeStands (at_most span) = P span
    ShapeStands (at_least span) = P span
    ShapeStands (in_parts span ps) = P span × ShapesStand ps
    ShapeStands (equal_to span) = P span
    ShapeStands (between span) = P span

    pub ShapesStand : PatternShapes → Type 0
    ShapesStand no_pattern = Unit {0}
    ShapesStand (pattern_and p ps) = ShapeStands p × ShapesStand ps

  mask_ends : (span : Span) (ms : List (Option Bool)) (x : Value) (zs : List Value) → P span → Ends P (mask_match span ms x zs)
  mask_ends span ms (bits_with bs v) zs p = search ends
  mask_ends span ms x zs p = p

  value_match_ends : (limit : ℕ) (span : Span) (x : Value) (zs : List Value) → P span → Ends P (value_match limit span x zs)
  value_match_ends limit span x (y ∷ zs) p =
      step_ends P (binary_value limit span binary.Equal x y) _ (binary_ends limit span binary.Equal x y p) (λ r. step_ends P (truth span r) _ (truth_ends span r p) (λ b. tt))
  value_match_ends limit span x [] p = p

  most_ends : (span : Span) (x : Value) (zs : List Value) → P span → Ends P (at_most_match span x zs)
  most_ends span (int a) (int b ∷ zs) p = tt
  most_ends span x zs p = p

  least_ends : (span : Span) (x : Value) (zs : List Value) → P span → Ends P (at_least_match span x zs)
  least_ends span (int a) (int b ∷ zs) p = tt
  least_ends span x zs p = p

  range_ends : (span : Span) (x : Value) (zs : List Value) → P span → Ends P (range_match span x zs)
  range_ends span (int a) (int l ∷ int h ∷ zs) p = tt
  range_ends span x zs p = p

  negated_ends : (b : Bool) (m : Matched) → Ends P (negated_or b m)
  negated_ends true m = tt
  negated_ends false m = tt

  mutual
    matches_end : (limit : ℕ) (q : PatternShape) (x : Value) (zs : List Value) → ShapeStands q → Ends P (matches limit q x zs)
    matches_end limit anything x zs h = tt
    matches_end limit (one_of negated ps) x zs h = step_ends P (any_match limit ps x zs) _ (any_ends limit ps x zs h) (λ m. negated_ends negated m)
    matches_end limit (masked span ms) x zs h = mask_ends span ms x zs h
    matches_end limit (at_most span) x zs h = most_ends span x zs h
    matches_end limit (at_least span) x zs h = least_ends span x zs h
    matches_end limit (in_parts span ps) x zs h = step_ends P (parts span x) _ (parts_end span x h.0) (λ xs. all_end limit span ps xs zs h.0 h.1)
    matches_end limit (equal_to span) x zs h = value_match_ends limit span x zs h
    matches_end limit (between span) x zs h = range_ends span x zs h

    any_ends : (limit : ℕ) (ps : PatternShapes) (x : Value) (zs : List Value) → ShapesStand ps → Ends P (any_match limit ps x zs)
    any_ends limit no_pattern x zs h = tt
    any_ends limit (pattern_and q ps) x zs h = step_ends P (matches limit q x zs) _ (matches_end limit q x zs h.0) (λ m. step_ends P (any_match limit ps x m.left) _ (any_ends limit ps x m.left h.1) (λ n. tt))

    all_end : (limit : ℕ) (span : Span) (ps : PatternShapes) (xs zs : List Value) → P span → ShapesStand ps → Ends P (all_match limit span ps xs zs)
    all_end limit span no_pattern [] zs p h = tt
    all_end limit span no_pattern (x ∷ xs) zs p h = p
    all_end limit span (pattern_and q ps) [] zs p h = p
    all_end limit span (pattern_and q ps) (x ∷ xs) zs p h = step_ends P (matches limit q x zs) _ (matches_end limit q x zs h.0) (λ m. step_ends P (all_match limit span ps xs m.left) _ (all_end limit span ps xs m.left p h.1) (λ n. tt))

  pub matched_ends : (limit : ℕ) (q : PatternShape) (zs : List Value) (x : Value) → ShapeStands q → Ends P (matched_in limit q zs x)
  matched_ends limit q zs x h =
      step_ends P (is_matched limit (pattern_and q no_pattern) zs x) _ (step_ends P (any_match limit (pattern_and q no_pattern) x zs) _ (any_ends limit (pattern_and q no_pattern) x zs (h, tt)) (λ m. tt)) (λ b. tt)
