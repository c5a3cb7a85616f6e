-- Where no bits occur in a value, it is stored and given as it is; and none occur in a value of a type in which there are none.
use Rattle.std.proofs.Common.{◌≡◌, ℕ, zero, suc, Bool, true, false, List, [], ◌∷◌, Option, Some, None, refl, sym, ap, ap₂, ◌∙◌, subst}
use Rattle.std.specs.Prelude.{◌==◌, ◌||◌, ◌&&◌}
use Rattle.asl_syn.specs.declared.token.Span.{Span}
use Rattle.asl_rules.specs.types.Types.{Ty, Parts, kind, kind_eq, integer_of, boolean, bits_of, enumeration_of, record_of, exception_of, tuple_of, array_of, named, no_part, part}
use Rattle.asl_rules.specs.types.Closed.{Assignment}
use Rattle.asl_rules.specs.private.HoldsBits.{holds_bits, parts_hold_bits, has_bits, have_bits}
use Rattle.asl_rules.specs.values.Values.{Value, Values, int, bool, bits_with, label, record_with, exception_with, tuple_with, array_with, no_value, value, count, is_exception}
use Rattle.asl_rules.specs.types.Views.{stripped, all_stripped, stripping, adopted, all_adopted, adopting}
use Rattle.asl_rules.specs.private.Belonging.{has_type, parts_have, all_have}
use Rattle.asl_rules.specs.runs.Plans.{Pure, Good, Bad}
use Rattle.asl_rules.specs.runs.Pures.{◌>>=◌, there}
use Rattle.asl_rules.specs.values.Structures.{value_at, element_of, with_element}
use Rattle.asl_rules.specs.values.Vectors.{slice_places, bits_at, with_slices, bitfield_of, with_bitfield, bitfields_of, with_bitfields}
use Rattle.asl_rules.specs.private.ByPlace.{Step, into_field, into_bitfield, into_bitfields, into_slices, into_element, field_in, with_field_in, updated, part_in}
use Rattle.asl_rules.proofs.basics.Tests.{no, both, some_same, none_some}
use Rattle.asl_rules.proofs.values.FirstValues.{good_same, bad_good}

neither : (a b : Bool) → (a || b) ≡ false → (a ≡ false) × (b ≡ false)
neither true b h = cc
neither false b h = (refl, h)

mutual
  pub nothing_to_strip : (x : Value) → has_bits x ≡ false → x ≡ stripped x
  nothing_to_strip (int z) h = refl
  nothing_to_strip (bool b) h = refl
  nothing_to_strip (bits_with bs u) h = cc
  nothing_to_strip (label n l) h = refl
  nothing_to_strip (record_with n xs) h = refl
  nothing_to_strip (exception_with o s n xs) h = refl
  nothing_to_strip (tuple_with xs) h = ap tuple_with (none_to_strip xs h)
  nothing_to_strip (array_with k xs) h = ap (array_with k) (none_to_strip xs h)

  none_to_strip : (xs : Values) → have_bits xs ≡ false → xs ≡ all_stripped xs
  none_to_strip no_value h = refl
  none_to_strip (value x xs) h =
      let p = neither (has_bits x) (have_bits xs) h in
      ap (λ y. value y xs) (nothing_to_strip x p.0) ∙ ap (value (stripped x)) (none_to_strip xs p.1)

mutual
  pub nothing_to_adopt : (x y : Value) → has_bits y ≡ false → y ≡ adopted x y
  nothing_to_adopt (int z) y h = refl
  nothing_to_adopt (bool b) y h = refl
  nothing_to_adopt (label n l) y h = refl
  nothing_to_adopt (record_with n xs) y h = refl
  nothing_to_adopt (exception_with o s n xs) y h = refl
  nothing_to_adopt (bits_with bs u) (int z) h = refl
  nothing_to_adopt (bits_with bs u) (bool b) h = refl
  nothing_to_adopt (bits_with bs u) (bits_with cs v) h = cc
  nothing_to_adopt (bits_with bs u) (label n l) h = refl
  nothing_to_adopt (bits_with bs u) (record_with n ys) h = refl
  nothing_to_adopt (bits_with bs u) (exception_with o s n ys) h = refl
  nothing_to_adopt (bits_with bs u) (tuple_with ys) h = refl
  nothing_to_adopt (bits_with bs u) (array_with k ys) h = refl
  nothing_to_adopt (tuple_with xs) (int z) h = refl
  nothing_to_adopt (tuple_with xs) (bool b) h = refl
  nothing_to_adopt (tuple_with xs) (bits_with cs v) h = refl
  nothing_to_adopt (tuple_with xs) (label n l) h = refl
  nothing_to_adopt (tuple_with xs) (record_with n ys) h = refl
  nothing_to_adopt (tuple_with xs) (exception_with o s n ys) h = refl
  nothing_to_adopt (tuple_with xs) (tuple_with ys) h = ap tuple_with (none_to_adopt xs ys h)
  nothing_to_adopt (tuple_with xs) (array_with k ys) h = refl
  nothing_to_adopt (array_with k xs) (int z) h = refl
  nothing_to_adopt (array_with k xs) (bool b) h = refl
  nothing_to_adopt (array_with k xs) (bits_with cs v) h = refl
  nothing_to_adopt (array_with k xs) (label n l) h = refl
  nothing_to_adopt (array_with k xs) (record_with n ys) h = refl
  nothing_to_adopt (array_with k xs) (exception_with o s n ys) h = refl
  nothing_to_adopt (array_with k xs) (tuple_with ys) h = refl
  nothing_to_adopt (array_with k xs) (array_with l ys) h = ap (array_with l) (none_to_adopt xs ys h)

  none_to_adopt : (xs ys : Values) → have_bits ys ≡ false → ys ≡ all_adopted xs ys
  none_to_adopt no_value ys h = refl
  none_to_adopt (value x xs) no_value h = refl
  none_to_adopt (value x xs) (value y ys) h =
      let p = neither (has_bits y) (have_bits ys) h in
      ap (λ z. value z ys) (nothing_to_adopt x y p.0) ∙ ap (value (adopted x y)) (none_to_adopt xs ys p.1)

-- ---- types in which no bits occur

all_without : (a : Assignment) (T : Ty) → ((x : Value) → has_type a x T ≡ true → has_bits x ≡ false) → (xs : Values) → all_have a xs T ≡ true → have_bits xs ≡ false
all_without a T f no_value h = refl
all_without a T f (value x xs) h =
    let p = both (has_type a x T) (all_have a xs T) h in
    ap₂ (λ b c. b || c) (f x p.0) (all_without a T f xs p.1)

mutual
  pub none_in : (a : Assignment) (T : Ty) (x : Value) → holds_bits T ≡ false → has_type a x T ≡ true → has_bits x ≡ false
  none_in a (integer_of ps) (int z) e h = refl
  none_in a (integer_of ps) x e h = no h
  none_in a boolean (bool b) e h = refl
  none_in a boolean x e h = no h
  none_in a (bits_of w u) x e h = no (sym e)
  none_in a (enumeration_of n ls) (label m l) e h = refl
  none_in a (enumeration_of n ls) x e h = no h
  none_in a (record_of n fs) (record_with m xs) e h = refl
  none_in a (record_of n fs) x e h = no h
  none_in a (exception_of n fs) (exception_with o s m xs) e h = refl
  none_in a (exception_of n fs) x e h = no h
  none_in a (tuple_of ts) (tuple_with xs) e h = none_in_parts a ts xs e h
  none_in a (tuple_of ts) x e h = no h
  none_in a (array_of n T) (array_with l xs) e h = all_without a T (λ x k. none_in a T x e k) xs (both (kind_eq l (kind T) && (count xs == n)) (all_have a xs T) h).1
  none_in a (array_of n T) x e h = no h
  none_in a (named n s T) x e h = none_in a T x e (both (is_exception n x) (has_type a x T) h).1

  none_in_parts : (a : Assignment) (ts : Parts) (xs : Values) → parts_hold_bits ts ≡ false → parts_have a xs ts ≡ true → have_bits xs ≡ false
  none_in_parts a no_part no_value e h = refl
  none_in_parts a no_part (value x xs) e h = no h
  none_in_parts a (part T ts) no_value e h = no h
  none_in_parts a (part T ts) (value x xs) e h =
      let q = neither (holds_bits T) (parts_hold_bits ts) e in
      let p = both (has_type a x T) (parts_have a xs ts) h in
      ap₂ (λ b c. b || c) (none_in a T x q.0 p.0) (none_in_parts a ts xs q.1 p.1)

-- ---- where it is known that there are none, they aren't looked for

mutual
  strip_keeps : (x : Value) → has_bits (stripped x) ≡ has_bits x
  strip_keeps (int z) = refl
  strip_keeps (bool b) = refl
  strip_keeps (bits_with bs u) = refl
  strip_keeps (label n l) = refl
  strip_keeps (record_with n xs) = refl
  strip_keeps (exception_with o s n xs) = refl
  strip_keeps (tuple_with xs) = strips_keep xs
  strip_keeps (array_with k xs) = strips_keep xs

  strips_keep : (xs : Values) → have_bits (all_stripped xs) ≡ have_bits xs
  strips_keep no_value = refl
  strips_keep (value x xs) = ap₂ (λ b c. b || c) (strip_keeps x) (strips_keep xs)

stripping_by : (holds : Bool) (x : Value) → (holds ≡ false → has_bits x ≡ false) → stripped x ≡ stripping holds x
stripping_by true x h = refl
stripping_by false x h = sym (nothing_to_strip x (h refl))

-- a value that without its bitfields is of the type
pub stripping_is : (a : Assignment) (T : Ty) (x : Value) → has_type a (stripped x) T ≡ true → stripped x ≡ stripping (holds_bits T) x
stripping_is a T x h = stripping_by (holds_bits T) x (λ e. sym (strip_keeps x) ∙ none_in a T (stripped x) e h)

adopting_is : (holds : Bool) (x y : Value) → (holds ≡ false → has_bits y ≡ false) → adopted x y ≡ adopting holds x y
adopting_is true x y h = refl
adopting_is false x y h = sym (nothing_to_adopt x y (h refl))

then_same : {A B : Type 0} (r : Pure A) (f g : A → Pure B) → ((x : A) → f x ≡ g x) → (r >>= f) ≡ (r >>= g)
then_same (Good x) f g h = h x
then_same (Bad e) f g h = refl

pub updated_is : (limit : ℕ) (holds : Bool) (ss : List Step) (y x : Value) → (holds ≡ false → has_bits y ≡ false) → updated limit true ss y x ≡ updated limit holds ss y x
updated_is limit holds [] y x h = ap Good (adopting_is holds x y h)
updated_is limit holds (into_field span i ∷ ss) y x h = then_same (field_in span i x) (λ q. updated limit true ss y q >>= λ r. with_field_in span i r x) (λ q. updated limit holds ss y q >>= λ r. with_field_in span i r x)
    (λ q. ap (λ o. o >>= λ r. with_field_in span i r x) (updated_is limit holds ss y q h))
updated_is limit holds (into_bitfield span f ∷ ss) y x h = then_same (bitfield_of span f x) (λ q. updated limit true ss y q >>= λ r. with_bitfield span f r x) (λ q. updated limit holds ss y q >>= λ r. with_bitfield span f r x)
    (λ q. ap (λ o. o >>= λ r. with_bitfield span f r x) (updated_is limit holds ss y q h))
updated_is limit holds (into_bitfields span fs ∷ ss) y x h = then_same (bitfields_of limit span fs x) (λ q. updated limit true ss y q >>= λ r. with_bitfields limit span fs r x) (λ q. updated limit holds ss y q >>= λ r. with_bitfields limit span fs r x)
    (λ q. ap (λ o. o >>= λ r. with_bitfields limit span fs r x) (updated_is limit holds ss y q h))
updated_is limit holds (into_slices span shapes zs ∷ ss) y x h = then_same (slice_places limit span shapes zs x)
    (λ ps. bits_at span ps x >>= λ q. updated limit true ss y q >>= λ r. with_slices limit span shapes zs r x) (λ ps. bits_at span ps x >>= λ q. updated limit holds ss y q >>= λ r. with_slices limit span shapes zs r x)
    (λ ps. then_same (bits_at span ps x) (λ q. updated limit true ss y q >>= λ r. with_slices limit span shapes zs r x) (λ q. updated limit holds ss y q >>= λ r. with_slices limit span shapes zs r x)
    (λ q. ap (λ o. o >>= λ r. with_slices limit span shapes zs r x) (updated_is limit holds ss y q h)))
updated_is limit holds (into_element span i ∷ ss) y x h = then_same (element_of span x i) (λ q. updated limit true ss y q >>= λ r. with_element span r x i) (λ q. updated limit holds ss y q >>= λ r. with_element span r x i)
    (λ q. ap (λ o. o >>= λ r. with_element span r x i) (updated_is limit holds ss y q h))

-- ---- parts of a tuple without bits

at_without : (i : ℕ) (xs : Values) (y : Value) → have_bits xs ≡ false → value_at i xs ≡ Some y → has_bits y ≡ false
at_without i no_value y h e = none_some y e
at_without zero (value x xs) y h e = subst (λ z. has_bits z ≡ false) (some_same x y e) (neither (has_bits x) (have_bits xs) h).0
at_without (suc i) (value x xs) y h e = at_without i xs y (neither (has_bits x) (have_bits xs) h).1 e

behind_part : (span : Span) (is : List ℕ) (o : Option Value) (y : Value) → ((z : Value) → o ≡ Some z → has_bits z ≡ false) → ((z : Value) → has_bits z ≡ false → part_in span is z ≡ Good y → has_bits y ≡ false) → (there span o >>= λ z. part_in span is z) ≡ Good y → has_bits y ≡ false
behind_part span is None y f next e = bad_good _ y e
behind_part span is (Some z) y f next e = next z (f z refl) e

pub part_without : (span : Span) (is : List ℕ) (x y : Value) → has_bits x ≡ false → part_in span is x ≡ Good y → has_bits y ≡ false
part_without span [] x y h e = subst (λ z. has_bits z ≡ false) (good_same x y e) h
part_without span (i ∷ is) (tuple_with xs) y h e = behind_part span is (value_at i xs) y (λ z k. at_without i xs z h k) (λ z l k. part_without span is z y l k) e
part_without span (i ∷ is) x y h e = bad_good _ y e
