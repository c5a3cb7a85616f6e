-- Elements and fields by their places.
use Rattle.std.proofs.Common.{◌≡◌, ℕ, zero, suc, ◌<◌, ◌≤◌, Bool, true, false, cond, List, [], ◌∷◌, length, get_or, Option, Some, None, refl, sym, ap, ◌∙◌, arith}
use Rattle.std.specs.Prelude.{ℤ, pos, negsuc, ◌≤ℤ◌, ◌<ℤ◌, option_map, slice_get, nat_lt}
use Rattle.std.proofs.lemmas.Int.{ints}
use Rattle.asl_syn.specs.declared.token.Span.{Span}
use Rattle.asl_syn.specs.declared.code.DynCode.TheVariants.{D06}
use Rattle.asl_rules.specs.types.Types.{Kind}
use Rattle.asl_rules.specs.values.Values as rules
use Rattle.asl_rules.specs.values.Structures.{value_at, element_of, inside}
use Rattle.asl_rules.specs.runs.Pures.{there}
use Rattle.asl_rules.specs.runs.Plans.{Faulted, Stuck, WrongKind, Good, Bad}
use Rattle.asl_value.specs.declared.value.Value.{Value}
use Rattle.asl_value.specs.declared.value.FieldValue.{FieldValue}
use Rattle.asl_rules.specs.private.ByPlace.{field_at}
use Rattle.asl_value.specs.private.Reaching.{index_in}
use Rattle.asl_value.specs.View.{value_of, field_of, all_values, all_fields}

twice : {A B C : Type 0} (f : A → B) (g : B → C) (o : Option A) → option_map (λ x. g (f x)) o ≡ option_map g (option_map f o)
twice f g None = refl
twice f g (Some x) = refl

-- ---- values by their places

value_is : (xs : List Value) (i : ℕ) → option_map value_of (slice_get xs i) ≡ value_at i (all_values xs)
value_is [] i = refl
value_is (x ∷ xs) zero = refl
value_is (x ∷ xs) (suc i) = value_is xs i

-- behind a reference
pub value_behind : {R : Type 0} (now : R → Value) (o : Option R) (xs : List Value) (i : ℕ) → option_map now o ≡ slice_get xs i → option_map (λ x. value_of (now x)) o ≡ value_at i (all_values xs)
value_behind now o xs i h = twice now value_of o ∙ (ap (option_map value_of) h ∙ value_is xs i)

pub value_there : (xs : List Value) (i : ℕ) (x : Value) → i < length xs → x ≡ get_or xs i x → value_at i (all_values xs) ≡ Some (value_of x)
value_there [] i x h e = absurd (omega (arith, h))
value_there (y ∷ xs) zero x h e = ap (λ z. Some (value_of z)) (sym e)
value_there (y ∷ xs) (suc i) x h e = value_there xs i x (omega (arith, h)) e

pub value_past : (xs : List Value) (i : ℕ) → length xs ≤ i → value_at i (all_values xs) ≡ None
value_past [] i h = refl
value_past (x ∷ xs) zero h = absurd (omega (arith, h))
value_past (x ∷ xs) (suc i) h = value_past xs i (omega (arith, h))

pub value_inside : (span : Span) (xs : List Value) (i : ℕ) (x y : Value) → i < length xs → x ≡ get_or xs i x → y ≡ x → inside span (value_at i (all_values xs)) ≡ Good (value_of y)
value_inside span xs i x y h e same = ap (inside span) (value_there xs i x h e) ∙ ap (λ w. Good (value_of w)) (sym same)

pub value_outside : (span : Span) (xs : List Value) (i : ℕ) → length xs ≤ i → inside span (value_at i (all_values xs)) ≡ Bad (Faulted D06 span)
value_outside span xs i h = ap (inside span) (value_past xs i h)

-- ---- elements

index_is : (z : ℤ) (n i : ℕ) → index_in z n ≡ Some i → z ≡ pos i
index_is (pos k) n i h = by (nat_lt k n) h
  where
    by : (b : Bool) → cond b (Some k) None ≡ Some i → pos k ≡ pos i
    by true e = ap pos (cc)
    by false e = cc
index_is (negsuc k) n i h = cc

pub element_there : (span : Span) (kind : Kind) (xs : List Value) (z : ℤ) (i : ℕ) (x y : Value) → index_in z (length xs) ≡ Some i → i < length xs → x ≡ get_or xs i x → y ≡ x → element_of span (rules.array_with kind (all_values xs)) (rules.int z) ≡ Good (value_of y)
element_there span kind xs z i x y h within here same =
    ap (λ w. element_of span (rules.array_with kind (all_values xs)) (rules.int w)) (index_is z (length xs) i h) ∙
    ap (inside span) (value_there xs i x within here) ∙ ap (λ w. Good (value_of w)) (sym same)

pub element_none : (span : Span) (kind : Kind) (xs : List Value) (z : ℤ) → index_in z (length xs) ≡ None → element_of span (rules.array_with kind (all_values xs)) (rules.int z) ≡ Bad (Faulted D06 span)
element_none span kind xs (pos k) h = by (nat_lt k (length xs)) refl h
  where
    by : (b : Bool) → nat_lt k (length xs) ≡ b → cond b (Some k) None ≡ None → inside span (value_at k (all_values xs)) ≡ Bad (Faulted D06 span)
    by true e g = cc
    by false e g = ap (inside span) (value_past xs k (grind arith))
element_none span kind xs (negsuc k) h = refl

-- ---- fields

pub field_there : (span : Span) (xs : List FieldValue) (i : ℕ) (x : FieldValue) (y : Value) → i < length xs → x ≡ get_or xs i x → value_of y ≡ (field_of x).value → there span (field_at i (all_fields xs)) ≡ Good (value_of y)
field_there span [] i x y h e w = absurd (omega (arith, h))
field_there span (z ∷ xs) zero x y h e w = ap (λ u. Good (field_of u).value) (sym e) ∙ ap Good (sym w)
field_there span (z ∷ xs) (suc i) x y h e w = field_there span xs i x y (omega (arith, h)) e w

pub field_none : (span : Span) (xs : List FieldValue) (i : ℕ) → length xs ≤ i → there span (field_at i (all_fields xs)) ≡ Bad (Stuck WrongKind span)
field_none span [] i h = refl
field_none span (x ∷ xs) zero h = absurd (omega (arith, h))
field_none span (x ∷ xs) (suc i) h = field_none span xs i (omega (arith, h))

-- ---- indices

pub index_low : (z : ℤ) (n : ℕ) → z <ℤ pos 0 → None ≡ index_in z n
index_low (pos k) n h = absurd (not_below k h)
  where
    not_below : (k : ℕ) → pos k <ℤ pos 0 → ⊥
    not_below k h = grind (arith, ints)
index_low (negsuc k) n h = refl

pub index_high : (z : ℤ) (n : ℕ) → pos n ≤ℤ z → None ≡ index_in z n
index_high (pos k) n h = by (nat_lt k n) refl
  where
    by : (b : Bool) → nat_lt k n ≡ b → None ≡ cond b (Some k) None
    by true e = absurd (grind (arith, ints))
    by false e = refl
index_high (negsuc k) n h = refl

pub index_below : (z : ℤ) (n i : ℕ) → z <ℤ pos n → pos i ≡ z → Some i ≡ index_in z n
index_below z n i high is = by (nat_lt i n) refl ∙ ap (λ w. index_in w n) is
  where
    by : (b : Bool) → nat_lt i n ≡ b → Some i ≡ cond b (Some i) None
    by true e = refl
    by false e = absurd (grind (arith, ints))
