-- Values as they go through types whose bits have widths and bitfields: they belong to the type as before, a second time
-- changes nothing, and a value stored over one that went through the type has the type's bitfields.
use Rattle.std.proofs.Common.{◌≡◌, ℕ, zero, suc, ℤ, pos, negsuc, ◌&&◌, Bool, true, false, List, refl, sym, ap, ap₂, ◌∙◌, subst, length}
use Rattle.std.specs.Prelude.{◌==◌}
use Rattle.asl_rules.specs.types.Types.{View, kind_eq}
use Rattle.asl_rules.specs.types.Closed as cl
use Rattle.asl_rules.specs.types.Closed.{Closed, ClosedParts, is_in}
use Rattle.asl_rules.specs.values.Values.{Value, Values, int, bool, bits_with, label, record_with, exception_with, tuple_with, array_with, no_value, value, count, is_exception, is_width, has, parts_in, all_in}
use Rattle.asl_rules.specs.types.Views.{viewed, parts_viewed, all_viewed, same_widths, all_same_widths, adopted, all_adopted}
use Rattle.asl_rules.proofs.basics.Tests.{no, both, and_true}
use Rattle.asl_rules.proofs.values.SameKind.{same_number, number_is}

-- ---- what values consist of

view_of : Value → View → View
view_of (bits_with bs v) d = v
view_of x d = d

parts_of : Value → Values
parts_of (tuple_with xs) = xs
parts_of (array_with k xs) = xs
parts_of x = no_value

same_view : (bs cs : List Bool) (u v : View) → bits_with bs u ≡ bits_with cs v → u ≡ v
unfolding view_of
same_view bs cs u v e = ap (λ x. view_of x u) e

pub tuple_same : (xs ys : Values) → tuple_with xs ≡ tuple_with ys → xs ≡ ys
unfolding parts_of
tuple_same xs ys e = ap parts_of e

pub array_same : (k l : _) (xs ys : Values) → array_with k xs ≡ array_with l ys → xs ≡ ys
unfolding parts_of
array_same k l xs ys e = ap parts_of e

first_of : Value → Values → Value
first_of d no_value = d
first_of d (value x xs) = x

rest_of : Values → Values
rest_of no_value = no_value
rest_of (value x xs) = xs

pub same_first : (x y : Value) (xs ys : Values) → value x xs ≡ value y ys → x ≡ y
unfolding first_of
same_first x y xs ys e = ap (first_of x) e

pub same_rest : (x y : Value) (xs ys : Values) → value x xs ≡ value y ys → xs ≡ ys
unfolding rest_of
same_rest x y xs ys e = ap rest_of e

-- ---- belonging

exception_viewed : (T : Closed) (x : Value) (n : List ℕ) → is_exception n (viewed T x) ≡ is_exception n x
exception_viewed (cl.named m supers T) x n = exception_viewed T x n
exception_viewed (cl.bits_of w u) (bits_with bs v) n = refl
exception_viewed (cl.bits_of w u) x n = refl
exception_viewed (cl.tuple_of ts) (tuple_with xs) n = refl
exception_viewed (cl.tuple_of ts) x n = refl
exception_viewed (cl.array_of i k T) (array_with l xs) n = refl
exception_viewed (cl.array_of i k T) x n = refl
exception_viewed T x n = refl

count_viewed : (T : Closed) (xs : Values) → count (all_viewed T xs) ≡ count xs
count_viewed T no_value = refl
count_viewed T (value x xs) = ap suc (count_viewed T xs)

mutual
  pub viewed_has : (T : Closed) (x : Value) → has x T ≡ true → has (viewed T x) T ≡ true
  viewed_has (cl.named n supers T) x h =
      let p = both (is_exception n x) (has x T) h in
      and_true (is_exception n (viewed T x)) (has (viewed T x) T) (exception_viewed T x n ∙ p.0) (viewed_has T x p.1)
  viewed_has (cl.bits_of w u) (bits_with bs v) h = h
  viewed_has (cl.bits_of w u) x h = h
  viewed_has (cl.tuple_of ts) (tuple_with xs) h = parts_viewed_have ts xs h
  viewed_has (cl.tuple_of ts) x h = h
  viewed_has (cl.array_of n k T) (array_with l xs) h =
      let p = both (kind_eq l k && (count xs == n)) (all_in xs T) h in
      and_true (kind_eq l k && (count (all_viewed T xs) == n)) (all_in (all_viewed T xs) T) (subst (λ m. (kind_eq l k && (m == n)) ≡ true) (sym (count_viewed T xs)) p.0) (all_viewed_have T xs p.1)
  viewed_has (cl.array_of n k T) x h = h
  viewed_has T x h = h

  parts_viewed_have : (ts : ClosedParts) (xs : Values) → parts_in xs ts ≡ true → parts_in (parts_viewed ts xs) ts ≡ true
  parts_viewed_have cl.no_part xs h = h
  parts_viewed_have (cl.part T ts) no_value h = h
  parts_viewed_have (cl.part T ts) (value x xs) h =
      let p = both (has x T) (parts_in xs ts) h in
      and_true (has (viewed T x) T) (parts_in (parts_viewed ts xs) ts) (viewed_has T x p.0) (parts_viewed_have ts xs p.1)

  all_viewed_have : (T : Closed) (xs : Values) → all_in xs T ≡ true → all_in (all_viewed T xs) T ≡ true
  all_viewed_have T no_value h = refl
  all_viewed_have T (value x xs) h =
      let p = both (has x T) (all_in xs T) h in
      and_true (has (viewed T x) T) (all_in (all_viewed T xs) T) (viewed_has T x p.0) (all_viewed_have T xs p.1)

-- ---- a second time

mutual
  pub viewed_twice : (T : Closed) (x : Value) → viewed T (viewed T x) ≡ viewed T x
  viewed_twice (cl.named n supers T) x = viewed_twice T x
  viewed_twice (cl.bits_of w u) (bits_with bs v) = refl
  viewed_twice (cl.bits_of w u) x = refl
  viewed_twice (cl.tuple_of ts) (tuple_with xs) = ap tuple_with (parts_twice ts xs)
  viewed_twice (cl.tuple_of ts) x = refl
  viewed_twice (cl.array_of n k T) (array_with l xs) = ap (array_with l) (all_twice T xs)
  viewed_twice (cl.array_of n k T) x = refl
  viewed_twice T x = refl

  parts_twice : (ts : ClosedParts) (xs : Values) → parts_viewed ts (parts_viewed ts xs) ≡ parts_viewed ts xs
  parts_twice cl.no_part xs = refl
  parts_twice (cl.part T ts) no_value = refl
  parts_twice (cl.part T ts) (value x xs) = ap₂ value (viewed_twice T x) (parts_twice ts xs)

  all_twice : (T : Closed) (xs : Values) → all_viewed T (all_viewed T xs) ≡ all_viewed T xs
  all_twice T no_value = refl
  all_twice T (value x xs) = ap₂ value (viewed_twice T x) (all_twice T xs)

-- ---- widths

pub width_is : (n : ℕ) (w : ℤ) → is_width n w ≡ true → w ≡ pos n
width_is n (pos m) h = ap pos (sym (same_number n m h))
width_is n (negsuc m) h = no h

number_in : ℤ → ℕ
number_in (pos n) = n
number_in (negsuc n) = n

pub same_width : (m n : ℕ) (w : ℤ) → is_width m w ≡ true → is_width n w ≡ true → (m == n) ≡ true
unfolding number_in
same_width m n w h k =
    let e : m ≡ n = ap number_in (sym (width_is m w h) ∙ width_is n w k) in
    subst (λ i. (m == i) ≡ true) e (number_is m)

mutual
  pub closed_widths : (T : Closed) (x y : Value) → has x T ≡ true → has y T ≡ true → same_widths x y ≡ true
  closed_widths (cl.named n supers T) x y h k = closed_widths T x y (both (is_exception n x) (has x T) h).1 (both (is_exception n y) (has y T) k).1
  closed_widths (cl.integer_in c) (int z) y h k = refl
  closed_widths (cl.integer_in c) x y h k = no h
  closed_widths cl.boolean (bool b) y h k = refl
  closed_widths cl.boolean x y h k = no h
  closed_widths (cl.enumeration_of n labels) (label m l) y h k = refl
  closed_widths (cl.enumeration_of n labels) x y h k = no h
  closed_widths (cl.record_of n fs) (record_with m xs) y h k = refl
  closed_widths (cl.record_of n fs) x y h k = no h
  closed_widths (cl.exception_of n fs) (exception_with own supers m xs) y h k = refl
  closed_widths (cl.exception_of n fs) x y h k = no h
  closed_widths (cl.bits_of w u) (bits_with bs v) (bits_with cs t) h k = same_width (length bs) (length cs) w h k
  closed_widths (cl.bits_of w u) (bits_with bs v) y h k = no k
  closed_widths (cl.bits_of w u) x y h k = no h
  closed_widths (cl.tuple_of ts) (tuple_with xs) (tuple_with ys) h k = parts_widths ts xs ys h k
  closed_widths (cl.tuple_of ts) (tuple_with xs) y h k = no k
  closed_widths (cl.tuple_of ts) x y h k = no h
  closed_widths (cl.array_of n l T) (array_with i xs) (array_with j ys) h k = all_widths T xs ys (both (kind_eq i l && (count xs == n)) (all_in xs T) h).1 (both (kind_eq j l && (count ys == n)) (all_in ys T) k).1
  closed_widths (cl.array_of n l T) (array_with i xs) y h k = no k
  closed_widths (cl.array_of n l T) x y h k = no h

  parts_widths : (ts : ClosedParts) (xs ys : Values) → parts_in xs ts ≡ true → parts_in ys ts ≡ true → all_same_widths xs ys ≡ true
  parts_widths cl.no_part no_value ys h k = refl
  parts_widths cl.no_part (value x xs) ys h k = no h
  parts_widths (cl.part T ts) no_value ys h k = no h
  parts_widths (cl.part T ts) (value x xs) no_value h k = no k
  parts_widths (cl.part T ts) (value x xs) (value y ys) h k =
      let p = both (has x T) (parts_in xs ts) h in
      let q = both (has y T) (parts_in ys ts) k in
      and_true (same_widths x y) (all_same_widths xs ys) (closed_widths T x y p.0 q.0) (parts_widths ts xs ys p.1 q.1)

  all_widths : (T : Closed) (xs ys : Values) → all_in xs T ≡ true → all_in ys T ≡ true → all_same_widths xs ys ≡ true
  all_widths T no_value ys h k = refl
  all_widths T (value x xs) no_value h k = refl
  all_widths T (value x xs) (value y ys) h k =
      let p = both (has x T) (all_in xs T) h in
      let q = both (has y T) (all_in ys T) k in
      and_true (same_widths x y) (all_same_widths xs ys) (closed_widths T x y p.0 q.0) (all_widths T xs ys p.1 q.1)

-- ---- stored over a value that went through the type

less_one : ℕ → ℕ
less_one zero = zero
less_one (suc n) = n

same_suc : (m n : ℕ) → suc m ≡ suc n → m ≡ n
unfolding less_one
same_suc m n e = ap less_one e

is_more : ℕ → Bool
is_more zero = false
is_more (suc n) = true

never_more : {A : Type 0} (n : ℕ) → zero ≡ suc n → A
unfolding is_more
never_more n e = no (ap is_more e)

mutual
  pub adopted_viewed : (T : Closed) (x y : Value) → has x T ≡ true → has y T ≡ true → viewed T x ≡ x → adopted x y ≡ viewed T y
  adopted_viewed (cl.named n supers T) x y h k e = adopted_viewed T x y (both (is_exception n x) (has x T) h).1 (both (is_exception n y) (has y T) k).1 e
  adopted_viewed (cl.integer_in c) (int z) y h k e = refl
  adopted_viewed (cl.integer_in c) x y h k e = no h
  adopted_viewed cl.boolean (bool b) y h k e = refl
  adopted_viewed cl.boolean x y h k e = no h
  adopted_viewed (cl.enumeration_of n labels) (label m l) y h k e = refl
  adopted_viewed (cl.enumeration_of n labels) x y h k e = no h
  adopted_viewed (cl.record_of n fs) (record_with m xs) y h k e = refl
  adopted_viewed (cl.record_of n fs) x y h k e = no h
  adopted_viewed (cl.exception_of n fs) (exception_with own supers m xs) y h k e = refl
  adopted_viewed (cl.exception_of n fs) x y h k e = no h
  adopted_viewed (cl.bits_of w u) (bits_with bs v) (bits_with cs t) h k e = ap (bits_with cs) (sym (same_view bs bs u v e))
  adopted_viewed (cl.bits_of w u) (bits_with bs v) y h k e = no k
  adopted_viewed (cl.bits_of w u) x y h k e = no h
  adopted_viewed (cl.tuple_of ts) (tuple_with xs) (tuple_with ys) h k e = ap tuple_with (parts_adopted ts xs ys h k (tuple_same (parts_viewed ts xs) xs e))
  adopted_viewed (cl.tuple_of ts) (tuple_with xs) y h k e = no k
  adopted_viewed (cl.tuple_of ts) x y h k e = no h
  adopted_viewed (cl.array_of n l T) (array_with i xs) (array_with j ys) h k e =
      let p = both (kind_eq i l && (count xs == n)) (all_in xs T) h in
      let q = both (kind_eq j l && (count ys == n)) (all_in ys T) k in
      ap (array_with j) (all_adopted_viewed T xs ys p.1 q.1 (array_same i i (all_viewed T xs) xs e) (same_number (count xs) n (both (kind_eq i l) (count xs == n) p.0).1 ∙ sym (same_number (count ys) n (both (kind_eq j l) (count ys == n) q.0).1)))
  adopted_viewed (cl.array_of n l T) (array_with i xs) y h k e = no k
  adopted_viewed (cl.array_of n l T) x y h k e = no h

  parts_adopted : (ts : ClosedParts) (xs ys : Values) → parts_in xs ts ≡ true → parts_in ys ts ≡ true → parts_viewed ts xs ≡ xs → all_adopted xs ys ≡ parts_viewed ts ys
  parts_adopted cl.no_part no_value ys h k e = refl
  parts_adopted cl.no_part (value x xs) ys h k e = no h
  parts_adopted (cl.part T ts) no_value ys h k e = no h
  parts_adopted (cl.part T ts) (value x xs) no_value h k e = no k
  parts_adopted (cl.part T ts) (value x xs) (value y ys) h k e =
      let p = both (has x T) (parts_in xs ts) h in
      let q = both (has y T) (parts_in ys ts) k in
      ap₂ value (adopted_viewed T x y p.0 q.0 (same_first (viewed T x) x (parts_viewed ts xs) xs e)) (parts_adopted ts xs ys p.1 q.1 (same_rest (viewed T x) x (parts_viewed ts xs) xs e))

  all_adopted_viewed : (T : Closed) (xs ys : Values) → all_in xs T ≡ true → all_in ys T ≡ true → all_viewed T xs ≡ xs → count xs ≡ count ys → all_adopted xs ys ≡ all_viewed T ys
  all_adopted_viewed T no_value no_value h k e c = refl
  all_adopted_viewed T no_value (value y ys) h k e c = never_more (count ys) c
  all_adopted_viewed T (value x xs) no_value h k e c = refl
  all_adopted_viewed T (value x xs) (value y ys) h k e c =
      let p = both (has x T) (all_in xs T) h in
      let q = both (has y T) (all_in ys T) k in
      ap₂ value (adopted_viewed T x y p.0 q.0 (same_first (viewed T x) x (all_viewed T xs) xs e)) (all_adopted_viewed T xs ys p.1 q.1 (same_rest (viewed T x) x (all_viewed T xs) xs e) (same_suc (count xs) (count ys) c))
