-- Terms over other denominators: their multiples, the terms divided by a common divisor, and lowest terms.
use Rattle.std.proofs.Common.{◌≡◌, ◌≢◌, ℕ, ◌+◌, ◌*◌, ◌/◌, ◌<◌, ◌≤◌, ◌^◌, zero, suc, List, [], ◌∷◌, length, drop, slice_index_or, refl, sym, ◌∙◌, ap, arith}
use Rattle.std.specs.Prelude.{unsigned_abs, int_div, int_rem}
use Rattle.std.proofs.Math.IntN.{ℤ, pos, negsuc, ◌+ℤ◌, ◌*ℤ◌, neg_ℤ, *ℤ_comm, pos-*ℤ-pos, zero-*ℤ}
use Rattle.std.proofs.Math.Nat.{le_of_mul-le-mul_right, le_antisymm, div-le_self}
use Rattle.std.proofs.lemmas.Int.{ints, unsigned_abs-mul, quot-rem}
use Rattle.asl_poly.specs.Terms.{Summand, Polynomial, of_terms, Sorted, AllBelow, value}
use Rattle.asl_poly.specs.Limits.{IsMap, weight, note_terms, note_factors}
use Rattle.asl_poly.specs.Operations.{constant_term, times, with_coefficient}
use Rattle.asl_poly.specs.Denominators.{Divides, DivideEach, greatest_common_divisor, multiples, divided, sizes, lowered, lowest, IsLowest}
use Rattle.asl_poly.specs.Poly.{IsPolynomial}
use Rattle.asl_poly.proofs.Ring.{mul_assoc, mul-one, swap_last, add-mul, neg-mul}
use Rattle.asl_poly.proofs.Values.{value-scaled}
use Rattle.asl_poly.proofs.NormalForm.{weight_scaled, nonzero_mul}
use Rattle.asl_poly.proofs.DistinctValues.{same_term}
use Rattle.std.specs.Int.{IsGcd}
use Rattle.std.proofs.lemmas.List.{drop_all}
use Rattle.asl_poly.proofs.ProductLoops.{next}
use Rattle.asl_poly.proofs.Divisors.{divides_exact, multiple_divides, divides_some, divides_le, divisor_some, divisor_divides, divisor_most, raised_some, IsDivisor, divisor_is, divisor_step, divisor_end}

no_weight : (z : ℤ) → unsigned_abs z ≡ 0 → z ≡ pos 0
no_weight z e = omega (arith, ints)

cancel : (a b r : ℕ) → 0 < r → a * r ≡ b * r → a ≡ b
cancel a b r p e = le_antisymm (le_of_mul-le-mul_right (omega arith) p) (le_of_mul-le-mul_right (omega arith) p)

pub cancel_one : (c d : ℤ) (k : ℕ) → 0 < k → c *ℤ pos k ≡ d *ℤ pos k → c ≡ d
cancel_one c d k p e =
    let a : (c +ℤ neg_ℤ d) *ℤ pos k ≡ pos 0 = rw (add-mul c (neg_ℤ d) (pos k), neg-mul d (pos k)) (omega (arith, ints)) in
    let b : unsigned_abs (c +ℤ neg_ℤ d) * k ≡ 0 = sym (unsigned_abs-mul (c +ℤ neg_ℤ d) (pos k)) ∙ ap unsigned_abs a in
    let z : unsigned_abs (c +ℤ neg_ℤ d) ≡ 0 = cancel (unsigned_abs (c +ℤ neg_ℤ d)) 0 k p (omega arith) in
    let y : c +ℤ neg_ℤ d ≡ pos 0 = no_weight (c +ℤ neg_ℤ d) z in
    omega (arith, ints)

-- ---- multiples

pub value_multiples : (a : ℕ → ℤ) (k : ℕ) (ts : List Summand) → value a (multiples k ts) ≡ pos k *ℤ value a ts
value_multiples a k ts = rw (value-scaled a (constant_term (pos k)) ts, mul-one (pos k)) refl

pub weight_multiples : (k : ℕ) (ts : List Summand) → weight (multiples k ts) ≡ k * weight ts
weight_multiples k ts = weight_scaled (constant_term (pos k)) ts

below_multiples : (ms : List ℕ) (k : ℕ) (ts : List Summand) → AllBelow ms ts → AllBelow ms (multiples k ts)
below_multiples ms k [] b = tt
below_multiples ms k (t ∷ ts) b = (b.0, below_multiples ms k ts b.1)

some_pos : (k : ℕ) → 0 < k → pos k ≢ pos 0
some_pos zero p = absurd (omega arith)
some_pos (suc k) p = λ e. cc

pub sorted_multiples : (k : ℕ) (ts : List Summand) → 0 < k → Sorted ts → Sorted (multiples k ts)
sorted_multiples k [] l h = tt
sorted_multiples k (t ∷ ts) l h = (
  record {
    counts = nonzero_mul (pos k) t.coefficient
        (some_pos k l) h.0.counts;
    falls = h.0.falls;
    degree = h.0.degree;
  },
  below_multiples t.factors k ts h.1,
  sorted_multiples k ts l h.2,
)

pub noted_multiples : (k : ℕ) (seen : List ℕ) (ts : List Summand) → note_terms seen (multiples k ts) ≡ note_terms seen ts
noted_multiples k seen [] = refl
noted_multiples k seen (t ∷ ts) = noted_multiples k (note_factors seen t.factors) ts

pub map_multiples : (k : ℕ) (ts : List Summand) → 0 < k → IsMap ts → k * weight ts ≤ 2 ^ 62 → IsMap (multiples k ts)
map_multiples k ts p h l = record {
  sorted = sorted_multiples k ts p h.sorted;
  light = omega (arith, weight_multiples k ts);
  few = omega (arith, ap length (noted_multiples k [] ts), h.few);
}

-- ---- terms divided by a common divisor

no_remainder : (k : ℕ) (c : ℤ) → Divides k (unsigned_abs c) → int_rem c (pos k) ≡ pos 0
no_remainder k (pos n) h = ap pos h
no_remainder k (negsuc n) h = ap (λ m. neg_ℤ (pos m)) h

exact_quotient : (k : ℕ) (c : ℤ) → Divides k (unsigned_abs c) → int_div c (pos k) *ℤ pos k ≡ c
exact_quotient k c h = let e = quot-rem c (pos k) in let r : int_rem c (pos k) ≡ pos 0 = no_remainder k c h in omega (arith, ints)

pub divided_back : (k : ℕ) (ts : List Summand) → DivideEach k (sizes ts) → multiples k (divided k ts) ≡ ts
divided_back k [] h = refl
divided_back k (t ∷ ts) h =
    let e : times (constant_term (pos k)) (with_coefficient (int_div t.coefficient (pos k)) t) ≡ t =
    same_term (times (constant_term (pos k)) (with_coefficient (int_div t.coefficient (pos k)) t)) t
    (*ℤ_comm (pos k) (int_div t.coefficient (pos k)) ∙ exact_quotient k t.coefficient h.0) refl in
    let f : multiples k (divided k ts) ≡ ts = divided_back k ts h.1 in
    cc

below_divided : (ms : List ℕ) (k : ℕ) (ts : List Summand) → AllBelow ms ts → AllBelow ms (divided k ts)
below_divided ms k [] b = tt
below_divided ms k (t ∷ ts) b = (b.0, below_divided ms k ts b.1)

still_counts : (k : ℕ) (c : ℤ) → Divides k (unsigned_abs c) → c ≢ pos 0 → int_div c (pos k) ≢ pos 0
still_counts k c h n e = n (sym (exact_quotient k c h) ∙ ap (λ z. z *ℤ pos k) e ∙ zero-*ℤ (pos k))

sorted_divided : (k : ℕ) (ts : List Summand) → DivideEach k (sizes ts) → Sorted ts → Sorted (divided k ts)
sorted_divided k [] d h = tt
sorted_divided k (t ∷ ts) d h = (
  record { counts = still_counts k t.coefficient d.0 h.0.counts; falls = h.0.falls; degree = h.0.degree },
  below_divided t.factors k ts h.1,
  sorted_divided k ts d.1 h.2,
)

noted_divided : (k : ℕ) (seen : List ℕ) (ts : List Summand) → note_terms seen (divided k ts) ≡ note_terms seen ts
noted_divided k seen [] = refl
noted_divided k seen (t ∷ ts) = noted_divided k (note_factors seen t.factors) ts

weight_divided : (k : ℕ) (ts : List Summand) → DivideEach k (sizes ts) → k * weight (divided k ts) ≡ weight ts
weight_divided k ts h = sym (weight_multiples k (divided k ts)) ∙ ap weight (divided_back k ts h)

some_times : (k n : ℕ) → 0 < k → n ≤ k * n
some_times zero n p = absurd (omega arith)
some_times (suc k) n p = omega arith

pub map_divided : (k : ℕ) (ts : List Summand) → 0 < k → DivideEach k (sizes ts) → IsMap ts → IsMap (divided k ts)
map_divided k ts p d h = record {
  sorted = sorted_divided k ts d h.sorted;
  light = omega (arith, weight_divided k ts d, some_times k (weight (divided k ts)) p, h.light);
  few = omega (arith, ap length (noted_divided k [] ts), h.few);
}

-- ---- lowest terms

put_together : (q m k x n : ℕ) → q * m ≡ x → x * k ≡ n → n ≡ q * (m * k)
put_together q m k x n a b = rw (← b, ← a) (omega arith)

-- a divisor of the quotients is, times k, one of what was divided
divides_more : (k m n : ℕ) → Divides k n → Divides m (n / k) → Divides (m * k) n
divides_more k m n h i =
    let a : n / k * k ≡ n = divides_exact k n h in
    let b : n / k / m * m ≡ n / k = divides_exact m (n / k) i in
    multiple_divides (m * k) (n / k / m) n (put_together (n / k / m) m k (n / k) n b a)

each_more : (k m : ℕ) (ts : List Summand) → DivideEach k (sizes ts) → DivideEach m (sizes (divided k ts)) → DivideEach (m * k) (sizes ts)
each_more k m [] h i = tt
each_more k m (t ∷ ts) h i =
    let e : int_div t.coefficient (pos k) *ℤ pos k ≡ t.coefficient = exact_quotient k t.coefficient h.0 in
    let f : unsigned_abs (int_div t.coefficient (pos k)) * k ≡ unsigned_abs t.coefficient =
    sym (unsigned_abs-mul (int_div t.coefficient (pos k)) (pos k)) ∙ ap unsigned_abs e in
    let b : unsigned_abs (int_div t.coefficient (pos k)) / m * m ≡ unsigned_abs (int_div t.coefficient (pos k)) = divides_exact m
    (unsigned_abs (int_div t.coefficient (pos k))) i.0 in (
      multiple_divides (m * k) (unsigned_abs (int_div t.coefficient (pos k)) / m) (unsigned_abs t.coefficient)
          (put_together (unsigned_abs (int_div t.coefficient (pos k)) / m) m k (unsigned_abs (int_div t.coefficient (pos k)))
          (unsigned_abs t.coefficient) b f),
      each_more k m ts h.1 i.1,
    )

at_most_one : (m k : ℕ) → 0 < k → m * k ≤ k → m ≤ 1
at_most_one m k p l = le_of_mul-le-mul_right (let e : m * k ≤ 1 * k = omega arith in e) p

module _ (ts : List Summand) (d : ℕ) (some : 0 < d) where
  pub lowered_lowest : IsLowest (lowered (greatest_common_divisor d (sizes ts)) ts d)
  lowered_lowest =
      let h = divisor_divides d (sizes ts) in
      let p : 0 < d / greatest_common_divisor d (sizes ts) = raised_some (greatest_common_divisor d (sizes ts)) d some h.0 in
      record {
        positive = p;
        lowest = λ m i j.
            let l : m * greatest_common_divisor d (sizes ts) ≤ greatest_common_divisor d (sizes ts) =
            divisor_most d (sizes ts) (m * greatest_common_divisor d (sizes ts)) some
            (divides_more (greatest_common_divisor d (sizes ts)) m d h.0 i) (each_more (greatest_common_divisor d (sizes ts)) m ts h.1 j) in
            let u : m ≤ 1 = at_most_one m (greatest_common_divisor d (sizes ts)) (divisor_some d (sizes ts)) l in
            let q : 0 < m = divides_some m (d / greatest_common_divisor d (sizes ts)) p i in
            omega arith;
      }

pub lowered_value : (a : ℕ → ℤ) (ts : List Summand) (d : ℕ)
    → pos (greatest_common_divisor d (sizes ts)) *ℤ value a (divided (greatest_common_divisor d (sizes ts)) ts) ≡ value a ts
lowered_value a ts d =
    let h = divisor_divides d (sizes ts) in
    sym (value_multiples a (greatest_common_divisor d (sizes ts)) (divided (greatest_common_divisor d (sizes ts)) ts))
    ∙ ap (value a) (divided_back (greatest_common_divisor d (sizes ts)) ts h.1)

pub lowest_polynomial : (ts : List Summand) (d : ℕ) → IsMap ts → 0 < d → d ≤ 2 ^ 16 → IsPolynomial (lowest ts d)
unfolding lowest
lowest_polynomial ts d h p l =
    let i = divisor_divides d (sizes ts) in
    record {
      map = map_divided (greatest_common_divisor d (sizes ts)) ts (divisor_some d (sizes ts)) i.1 h;
      lowest = lowered_lowest ts d p;
      fine = omega (arith, div-le_self d (greatest_common_divisor d (sizes ts)));
    }

scaled_down : (k q v w x y : ℤ) → k *ℤ v ≡ w → w *ℤ x ≡ y *ℤ (q *ℤ k) → (v *ℤ x) *ℤ k ≡ (y *ℤ q) *ℤ k
scaled_down k q v w x y e f =
    let a : (v *ℤ x) *ℤ k ≡ (k *ℤ v) *ℤ x = swap_last v x k ∙ ap (λ z. z *ℤ x) (*ℤ_comm v k) in
    let b : (k *ℤ v) *ℤ x ≡ w *ℤ x = ap (λ z. z *ℤ x) e in
    a ∙ b ∙ f ∙ sym (mul_assoc y q k)

-- what the terms over d are as a fraction, they are in lowest terms too
pub lowest_same : (a : ℕ → ℤ) (ts : List Summand) (d : ℕ) (x y : ℤ) → 0 < d → value a ts *ℤ x ≡ y *ℤ pos d
    → value a (lowest ts d).terms *ℤ x ≡ y *ℤ pos (lowest ts d).denominator
unfolding lowest
lowest_same a ts d x y p e =
    let g : ℕ = greatest_common_divisor d (sizes ts) in
    let i = divisor_divides d (sizes ts) in
    let w : pos (d / greatest_common_divisor d (sizes ts)) *ℤ pos (greatest_common_divisor d (sizes ts)) ≡ pos d =
    pos-*ℤ-pos (d / greatest_common_divisor d (sizes ts)) (greatest_common_divisor d (sizes ts)) ∙ ap pos
    (divides_exact (greatest_common_divisor d (sizes ts)) d i.0) in
    cancel_one (value a (divided (greatest_common_divisor d (sizes ts)) ts) *ℤ x) (y *ℤ pos (d / greatest_common_divisor d (sizes ts)))
    (greatest_common_divisor d (sizes ts)) (divisor_some d (sizes ts))
    (scaled_down (pos (greatest_common_divisor d (sizes ts))) (pos (d / greatest_common_divisor d (sizes ts)))
    (value a (divided (greatest_common_divisor d (sizes ts)) ts)) (value a ts) x y (lowered_value a ts d) (e ∙ ap (λ z. y *ℤ z) (sym w)))

-- lowest terms are decided by the greatest divisor
pub lowest_of_one : (p : Polynomial) → 0 < p.denominator → greatest_common_divisor p.denominator (sizes p.terms) ≡ 1 → IsLowest p
lowest_of_one p some e = record {
  positive = some;
  lowest = λ k h i.
      let l : k ≤ greatest_common_divisor p.denominator (sizes p.terms) = divisor_most p.denominator (sizes p.terms) k some h i in
      let q : 0 < k = divides_some k p.denominator some h in
      omega arith;
}

-- over 1
pub one_is_polynomial : (ts : List Summand) → IsMap ts → IsPolynomial (of_terms ts)
one_is_polynomial ts h = record {
  map = h;
  lowest =
      record { positive = omega arith; lowest = λ k d i. le_antisymm (divides_le k 1 (omega arith) d) (divides_some k 1 (omega arith) d) };
  fine = omega arith;
}

pub one_of_lowest : (p : Polynomial) → IsLowest p → greatest_common_divisor p.denominator (sizes p.terms) ≡ 1
one_of_lowest p h =
    h.lowest (greatest_common_divisor p.denominator (sizes p.terms)) (divisor_divides p.denominator (sizes p.terms)).0
    (divisor_divides p.denominator (sizes p.terms)).1

-- ---- the loop that finds the common divisor

pub common_step : (d g n m : ℕ) (ts : List Summand) (t : Summand) (i : ℕ) → i < length ts → t ≡ slice_index_or ts i t
    → n ≡ unsigned_abs t.coefficient → IsGcd g n m
    → ((h : ℕ) → IsDivisor g (sizes (drop i ts)) h → IsDivisor d (sizes ts) h) → (h : ℕ) → IsDivisor m
    (sizes (drop (i + 1) ts)) h → IsDivisor d (sizes ts) h
common_step d g n m ts t i l is e k v h x =
    v h (rw (next ts i t l is) (divisor_step g (unsigned_abs t.coefficient) m (sizes (drop (i + 1) ts)) h (rw e at k) x))

pub common_end : (d g : ℕ) (ts : List Summand) (i : ℕ) → length ts ≤ i → 0 < d
    → ((h : ℕ) → IsDivisor g (sizes (drop i ts)) h → IsDivisor d (sizes ts) h) → g ≡ greatest_common_divisor d (sizes ts)
common_end d g ts i l p v = divisor_is d (sizes ts) g p (v g (rw (drop_all i ts l) (divisor_end g)))
