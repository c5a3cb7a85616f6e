-- Values with others in their places.
use Rattle.std.proofs.Common.{◌≡◌, ℕ, zero, suc, ◌<◌, Bool, true, false, cond, List, [], ◌∷◌, length, get_or, Option, Some, None, refl, sym, ap, ◌∙◌, arith}
use Rattle.std.specs.Prelude.{ℤ, pos, negsuc, option_map, slice_set, nat_lt}
use Rattle.asl_syn.specs.declared.token.Span.{Span}
use Rattle.asl_syn.specs.declared.code.DynCode.TheVariants.{D06}
use Rattle.asl_rules.specs.values.Values as rules
use Rattle.asl_rules.specs.values.Values.{Values, FieldValues, no_value_of, value_of_field, no_value, value}
use Rattle.asl_rules.specs.runs.Pures.{◌>>=◌, there}
use Rattle.asl_rules.specs.values.Structures.{value_at, with_value_at, inside}
use Rattle.asl_rules.specs.runs.Plans.{Faulted, Good, Bad}
use Rattle.asl_value.specs.declared.value.Value.{Value}
use Rattle.asl_value.specs.declared.value.FieldValue.{FieldValue}
use Rattle.asl_rules.specs.private.ByPlace.{Step, field_at, with_field_at, updated}
use Rattle.asl_value.specs.private.Reaching.{index_in, put_into_fields, put_into_elements}
use Rattle.asl_value.specs.View.{value_of, field_of, all_values, all_fields}
use Rattle.asl_value.proofs.Elements.{value_past}

-- ---- lists with another item

pub value_set : (xs ys : List Value) (i : ℕ) (y : Value) → i < length xs → ys ≡ slice_set xs i y → with_value_at i (value_of y) (all_values xs) ≡ Some (all_values ys)
value_set [] ys i y h e = absurd (omega (arith, h))
value_set (x ∷ xs) ys zero y h e = ap (λ l. Some (all_values l)) (sym e)
value_set (x ∷ xs) ys (suc i) y h e = ap (option_map (value (value_of x))) (value_set xs (slice_set xs i y) i y (omega (arith, h)) refl) ∙ ap (λ l. Some (all_values l)) (sym e)

field_put : (xs : List FieldValue) (i : ℕ) (old y : FieldValue) → i < length xs → old ≡ get_or xs i old → (field_of y).name ≡ (field_of old).name → with_field_at i (field_of y).value (all_fields xs) ≡ Some (all_fields (slice_set xs i y))
field_put [] i old y h e n = absurd (omega (arith, h))
field_put (x ∷ xs) zero old y h e n = ap (λ f. Some (value_of_field f (field_of y).value (all_fields xs))) (ap (λ z. (field_of z).name) (sym e) ∙ sym n)
field_put (x ∷ xs) (suc i) old y h e n = ap (option_map (value_of_field (field_of x).name (field_of x).value)) (field_put xs i old y (omega (arith, h)) e n)

pub field_set : (xs ys : List FieldValue) (i : ℕ) (old y : FieldValue) (v : rules.Value) → i < length xs → old ≡ get_or xs i old → (field_of y).name ≡ (field_of old).name → (field_of y).value ≡ v → ys ≡ slice_set xs i y → with_field_at i v (all_fields xs) ≡ Some (all_fields ys)
field_set xs ys i old y v h e n w g = ap (λ u. with_field_at i u (all_fields xs)) (sym w) ∙ field_put xs i old y h e n ∙ ap (λ l. Some (all_fields l)) (sym g)

-- ---- an item set twice

abbrev then : {A B : Type 0} → Option A → (A → Option B) → Option B
then None f = None
then (Some x) f = f x

values_behind : (x r : rules.Value) (i : ℕ) (o : Option Values) → then (option_map (value x) o) (with_value_at (suc i) r) ≡ option_map (value x) (then o (with_value_at i r))
values_behind x r i None = refl
values_behind x r i (Some xs) = refl

values_twice : (i : ℕ) (s r : rules.Value) (xs : Values) → then (with_value_at i s xs) (with_value_at i r) ≡ with_value_at i r xs
values_twice i s r no_value = refl
values_twice zero s r (value x xs) = refl
values_twice (suc i) s r (value x xs) = values_behind x r i (with_value_at i s xs) ∙ ap (option_map (value x)) (values_twice i s r xs)

fields_behind : (f : List ℕ) (x r : rules.Value) (i : ℕ) (o : Option FieldValues) → then (option_map (value_of_field f x) o) (with_field_at (suc i) r) ≡ option_map (value_of_field f x) (then o (with_field_at i r))
fields_behind f x r i None = refl
fields_behind f x r i (Some xs) = refl

fields_twice : (i : ℕ) (s r : rules.Value) (xs : FieldValues) → then (with_field_at i s xs) (with_field_at i r) ≡ with_field_at i r xs
fields_twice i s r no_value_of = refl
fields_twice zero s r (value_of_field f x xs) = refl
fields_twice (suc i) s r (value_of_field f x xs) = fields_behind f x r i (with_field_at i s xs) ∙ ap (option_map (value_of_field f x)) (fields_twice i s r xs)

-- ---- what stands behind a place replaced

pub fields_put : (limit : ℕ) (holds : Bool) (span : Span) (i : ℕ) (ss : List Step) (y s q r : rules.Value) (xs ys zs : FieldValues) → there span (field_at i xs) ≡ Good q → updated limit holds ss y q ≡ Good r → with_field_at i s xs ≡ Some ys → with_field_at i r ys ≡ Some zs → put_into_fields limit holds span i ss y xs ≡ Good zs
fields_put limit holds span i ss y s q r xs ys zs at done out back =
    ap (λ p. p >>= λ a. updated limit holds ss y a >>= λ b. there span (with_field_at i b xs)) at ∙
    ap (λ p. p >>= λ b. there span (with_field_at i b xs)) done ∙
    ap (there span) (sym (fields_twice i s r xs) ∙ ap (λ o. then o (with_field_at i r)) out ∙ back)

set_length : (xs : List Value) (i : ℕ) (y : Value) → length (slice_set xs i y) ≡ length xs
set_length [] i y = refl
set_length (x ∷ xs) zero y = refl
set_length (x ∷ xs) (suc i) y = ap suc (set_length xs i y)

pub values_put : (limit : ℕ) (holds : Bool) (span : Span) (i : ℕ) (ss : List Step) (y q : rules.Value) (a b : Value) (xs ys zs : List Value) → inside span (value_at i (all_values xs)) ≡ Good q → updated limit holds ss y q ≡ Good (value_of b) → i < length xs → ys ≡ slice_set xs i a → zs ≡ slice_set ys i b
    → put_into_elements limit holds span (pos i) ss y (all_values xs) ≡ Good (all_values zs)
values_put limit holds span i ss y q a b xs ys zs at done within out back =
    let same : length ys ≡ length xs = ap (λ l. length l) out ∙ set_length xs i a in
    let still : i < length ys = omega arith in
    ap (λ p. p >>= λ u. updated limit holds ss y u >>= λ v. inside span (with_value_at i v (all_values xs))) at ∙
    ap (λ p. p >>= λ v. inside span (with_value_at i v (all_values xs))) done ∙
    ap (inside span) (sym (values_twice i (value_of a) (value_of b) (all_values xs)) ∙ ap (λ o. then o (with_value_at i (value_of b))) (value_set xs ys i a within out) ∙ value_set ys zs i b still back)

pub elements_none : (limit : ℕ) (holds : Bool) (span : Span) (z : ℤ) (ss : List Step) (y : rules.Value) (xs : List Value) → index_in z (length xs) ≡ None → put_into_elements limit holds span z ss y (all_values xs) ≡ Bad (Faulted D06 span)
elements_none limit holds span (negsuc k) ss y xs h = refl
elements_none limit holds span (pos k) ss y xs h = by (nat_lt k (length xs)) refl h
  where
    by : (b : Bool) → nat_lt k (length xs) ≡ b → cond b (Some k) None ≡ None → put_into_elements limit holds span (pos k) ss y (all_values xs) ≡ Bad (Faulted D06 span)
    by true e g = cc
    by false e g = ap (λ o. inside span o >>= λ q. updated limit holds ss y q >>= λ r. inside span (with_value_at k r (all_values xs))) (value_past xs k (grind arith))
