-- Bounds of fractions: what an operation makes of polynomials within some integers is within what it makes of these integers.
use Rattle.std.proofs.Common.{◌⊎◌, inl, inr, ◌≡◌, ℕ, ◌*◌, ◌/◌, ◌<◌, List, refl, sym, subst, ◌∙◌, ap, arith}
use Rattle.std.specs.Prelude.{◌≤ℤ◌, unsigned_abs}
use Rattle.std.proofs.Math.IntN.{ℤ, pos, negsuc, ◌+ℤ◌, ◌-ℤ◌, ◌*ℤ◌, *ℤ_comm, pos-*ℤ-pos}
use Rattle.std.proofs.lemmas.Int.{ints}
use Rattle.asl_poly.specs.Terms.{Summand, Polynomial, value}
use Rattle.asl_poly.specs.Operations.{sum_terms, difference_terms, product_terms}
use Rattle.asl_poly.specs.Denominators.{greatest_common_divisor, raised, divided, sizes, lowest}
use Rattle.asl_poly.specs.Poly.{IsAtMost, IsAtLeast, sum_denominator, sum_map, difference_map, product_map}
use Rattle.asl_poly.proofs.Ring.{add-mul, mul_assoc}
use Rattle.asl_poly.proofs.Divisors.{divides_exact, divisor_some, divisor_divides}
use Rattle.asl_poly.proofs.LowestTerms.{value_multiples, lowered_value}
use Rattle.asl_poly.proofs.Maps.{sub-mul, left_exact, right_exact, value_sum, value_difference, value_product}

-- ---- the order and products

add_pos : (y : ℤ) (k n : ℕ) → (y *ℤ pos n) ≤ℤ ((y +ℤ pos k) *ℤ pos n)
add_pos y k n = rw (add-mul y (pos k) (pos n), pos-*ℤ-pos k n) (more (y *ℤ pos n) (k * n))
  where
    more : (z : ℤ) (m : ℕ) → z ≤ℤ (z +ℤ pos m)
    more z m = omega (arith, ints)

-- y is x and a number more
apart : (x y : ℤ) → x ≤ℤ y → (k : ℕ) × (y ≡ x +ℤ pos k)
apart x y h = (unsigned_abs (y -ℤ x), by_parts x y h)
  where
    by_parts : (x y : ℤ) → x ≤ℤ y → y ≡ x +ℤ pos (unsigned_abs (y -ℤ x))
    by_parts x y h = omega (arith, ints)

pub times_pos : (x y : ℤ) (n : ℕ) → x ≤ℤ y → (x *ℤ pos n) ≤ℤ (y *ℤ pos n)
times_pos x y n h =
    let k = apart x y h in
    subst (λ z. (x *ℤ pos n) ≤ℤ (z *ℤ pos n)) (sym k.1) (add_pos x k.0 n)

pub at_most_or : (x y : ℤ) → (x ≤ℤ y) ⊎ ((y +ℤ pos 1) ≤ℤ x)
at_most_or x y = grind (arith, ints)

too_much : (u v : ℤ) (n : ℕ) → 0 < n → u ≤ℤ v → (v +ℤ pos n) ≤ℤ u → ⊥
too_much u v n p h k = omega (arith, ints)

pub one_more : (y : ℤ) (n : ℕ) → (y +ℤ pos 1) *ℤ pos n ≡ y *ℤ pos n +ℤ pos n
one_more y n = add-mul y (pos 1) (pos n) ∙ ap (λ z. y *ℤ pos n +ℤ z) (pos-*ℤ-pos 1 n ∙ ap pos (once n))
  where
    once : (n : ℕ) → 1 * n ≡ n
    once n = omega arith

pub less_of_times : (x y : ℤ) (n : ℕ) → 0 < n → (x *ℤ pos n) ≤ℤ (y *ℤ pos n) → x ≤ℤ y
less_of_times x y n p h = elim (at_most_or x y) [
  | inl k ↦ k
  | inr k ↦ absurd (too_much (x *ℤ pos n) (y *ℤ pos n) n p h (subst (λ z. z ≤ℤ (x *ℤ pos n)) (one_more y n) (times_pos (y +ℤ pos 1) x n k)))
]

-- ---- lowest terms

lowered_times : (x : ℤ) (g d : ℕ) → d / g * g ≡ d → (x *ℤ pos (d / g)) *ℤ pos g ≡ x *ℤ pos d
lowered_times x g d e = mul_assoc x (pos (d / g)) (pos g) ∙ ap (λ z. x *ℤ z) (pos-*ℤ-pos (d / g) g ∙ ap pos e)

pub lowest_most : (a : ℕ → ℤ) (ts : List Summand) (d : ℕ) (x : ℤ) → value a ts ≤ℤ (x *ℤ pos d) → IsAtMost a (lowest ts d) x
unfolding lowest
lowest_most a ts d x h =
    let g : ℕ = greatest_common_divisor d (sizes ts) in
    let v : value a (divided g ts) *ℤ pos g ≡ value a ts = *ℤ_comm (value a (divided g ts)) (pos g) ∙ lowered_value a ts d in
    let w : (x *ℤ pos (d / g)) *ℤ pos g ≡ x *ℤ pos d = lowered_times x g d (divides_exact g d (divisor_divides d (sizes ts)).0) in
    less_of_times (value a (divided g ts)) (x *ℤ pos (d / g)) g (divisor_some d (sizes ts))
    (subst (λ z. z ≤ℤ ((x *ℤ pos (d / g)) *ℤ pos g)) (sym v) (subst (λ z. value a ts ≤ℤ z) (sym w) h))

pub lowest_least : (a : ℕ → ℤ) (ts : List Summand) (d : ℕ) (x : ℤ) → (x *ℤ pos d) ≤ℤ value a ts → IsAtLeast a (lowest ts d) x
unfolding lowest
lowest_least a ts d x h =
    let g : ℕ = greatest_common_divisor d (sizes ts) in
    let v : value a (divided g ts) *ℤ pos g ≡ value a ts = *ℤ_comm (value a (divided g ts)) (pos g) ∙ lowered_value a ts d in
    let w : (x *ℤ pos (d / g)) *ℤ pos g ≡ x *ℤ pos d = lowered_times x g d (divides_exact g d (divisor_divides d (sizes ts)).0) in
    less_of_times (x *ℤ pos (d / g)) (value a (divided g ts)) g (divisor_some d (sizes ts))
    (subst (λ z. ((x *ℤ pos (d / g)) *ℤ pos g) ≤ℤ z) (sym v) (subst (λ z. z ≤ℤ value a ts) (sym w) h))

-- ---- over a common denominator

over_common : (x : ℤ) (k d n : ℕ) → k * d ≡ n → (x *ℤ pos d) *ℤ pos k ≡ x *ℤ pos n
over_common x k d n e = mul_assoc x (pos d) (pos k) ∙ ap (λ z. x *ℤ z) (*ℤ_comm (pos d) (pos k) ∙ pos-*ℤ-pos k d ∙ ap pos e)

raised_most : (v x : ℤ) (k d n : ℕ) → k * d ≡ n → v ≤ℤ (x *ℤ pos d) → (pos k *ℤ v) ≤ℤ (x *ℤ pos n)
raised_most v x k d n e h =
    subst (λ z. z ≤ℤ (x *ℤ pos n)) (*ℤ_comm v (pos k)) (subst (λ z. (v *ℤ pos k) ≤ℤ z) (over_common x k d n e)
    (times_pos v (x *ℤ pos d) k h))

raised_least : (v x : ℤ) (k d n : ℕ) → k * d ≡ n → (x *ℤ pos d) ≤ℤ v → (x *ℤ pos n) ≤ℤ (pos k *ℤ v)
raised_least v x k d n e h =
    subst (λ z. (x *ℤ pos n) ≤ℤ z) (*ℤ_comm v (pos k)) (subst (λ z. z ≤ℤ (v *ℤ pos k)) (over_common x k d n e)
    (times_pos (x *ℤ pos d) v k h))

sums : (u v s t : ℤ) → u ≤ℤ s → v ≤ℤ t → (u +ℤ v) ≤ℤ (s +ℤ t)
sums u v s t h k = omega (arith, ints)

differences : (u v s t : ℤ) → u ≤ℤ s → t ≤ℤ v → (u -ℤ v) ≤ℤ (s -ℤ t)
differences u v s t h k = omega (arith, ints)

module _ (a : ℕ → ℤ) (p q : Polynomial) where
  sum_is : value a (sum_terms (raised (sum_denominator p q) p) (raised (sum_denominator p q) q))
      ≡ pos (sum_denominator p q / p.denominator) *ℤ value a p.terms +ℤ pos (sum_denominator p q / q.denominator) *ℤ value a q.terms
  sum_is =
      value_sum a (raised (sum_denominator p q) p) (raised (sum_denominator p q) q) _ refl
      ∙ rw (
        value_multiples a (sum_denominator p q / p.denominator) p.terms,
        value_multiples a (sum_denominator p q / q.denominator) q.terms,
      ) refl

  difference_is : value a (difference_terms (raised (sum_denominator p q) p) (raised (sum_denominator p q) q))
      ≡ pos (sum_denominator p q / p.denominator) *ℤ value a p.terms -ℤ pos (sum_denominator p q / q.denominator) *ℤ value a q.terms
  difference_is =
      value_difference a (raised (sum_denominator p q) p) (raised (sum_denominator p q) q) _ refl
      ∙ rw (
        value_multiples a (sum_denominator p q / p.denominator) p.terms,
        value_multiples a (sum_denominator p q / q.denominator) q.terms,
      ) refl

  module _ (x y : ℤ) where
    pub sum_most : IsAtMost a p x → IsAtMost a q y → IsAtMost a (sum_map p q) (x +ℤ y)
    unfolding sum_map
    sum_most h k =
        lowest_most a (sum_terms (raised (sum_denominator p q) p) (raised (sum_denominator p q) q)) (sum_denominator p q) (x +ℤ y)
        (rw (sum_is, add-mul x y (pos (sum_denominator p q)))
        (sums _ _ _ _
        (raised_most (value a p.terms) x _ _ _ (left_exact p q) h) (raised_most (value a q.terms) y _ _ _ (right_exact p q) k)))

    pub sum_least : IsAtLeast a p x → IsAtLeast a q y → IsAtLeast a (sum_map p q) (x +ℤ y)
    unfolding sum_map
    sum_least h k =
        lowest_least a (sum_terms (raised (sum_denominator p q) p) (raised (sum_denominator p q) q)) (sum_denominator p q) (x +ℤ y)
        (rw (sum_is, add-mul x y (pos (sum_denominator p q)))
        (sums _ _ _ _
        (raised_least (value a p.terms) x _ _ _ (left_exact p q) h) (raised_least (value a q.terms) y _ _ _ (right_exact p q) k)))

    pub difference_most : IsAtMost a p x → IsAtLeast a q y → IsAtMost a (difference_map p q) (x -ℤ y)
    unfolding difference_map
    difference_most h k =
        lowest_most a (difference_terms (raised (sum_denominator p q) p) (raised (sum_denominator p q) q)) (sum_denominator p q) (x -ℤ y)
        (rw (difference_is, sub-mul x y (pos (sum_denominator p q)))
        (differences _ _ _ _
        (raised_most (value a p.terms) x _ _ _ (left_exact p q) h) (raised_least (value a q.terms) y _ _ _ (right_exact p q) k)))

    pub difference_least : IsAtLeast a p x → IsAtMost a q y → IsAtLeast a (difference_map p q) (x -ℤ y)
    unfolding difference_map
    difference_least h k =
        lowest_least a (difference_terms (raised (sum_denominator p q) p) (raised (sum_denominator p q) q)) (sum_denominator p q) (x -ℤ y)
        (rw (difference_is, sub-mul x y (pos (sum_denominator p q)))
        (differences _ _ _ _
        (raised_least (value a p.terms) x _ _ _ (left_exact p q) h) (raised_most (value a q.terms) y _ _ _ (right_exact p q) k)))

-- ---- an integer of at least 0 times a polynomial

both_over : (x y : ℤ) (d e : ℕ) → (x *ℤ pos d) *ℤ (y *ℤ pos e) ≡ (x *ℤ y) *ℤ pos (d * e)
both_over x y d e =
    mul_assoc x (pos d) (y *ℤ pos e)
    ∙ ap (λ z. x *ℤ z) (sym (mul_assoc (pos d) y (pos e)) ∙ ap (λ z. z *ℤ pos e) (*ℤ_comm (pos d) y) ∙ mul_assoc y (pos d) (pos e)
    ∙ ap (λ z. y *ℤ z) (pos-*ℤ-pos d e))
    ∙ sym (mul_assoc x y (pos (d * e)))

pub times_most : (u v w : ℤ) → pos 0 ≤ℤ u → v ≤ℤ w → (u *ℤ v) ≤ℤ (u *ℤ w)
times_most (pos n) v w h k = rw (*ℤ_comm (pos n) v, *ℤ_comm (pos n) w) (times_pos v w n k)
times_most (negsuc n) v w h k = absurd (omega (arith, ints))

module _ (a : ℕ → ℤ) (p q : Polynomial) (x y : ℤ) (is : value a p.terms ≡ x *ℤ pos p.denominator) (some : pos 0 ≤ℤ value a p.terms) where
  product_is : value a (product_terms p.terms q.terms) ≡ value a p.terms *ℤ value a q.terms
  product_is = value_product a p.terms q.terms _ refl

  bound_is : value a p.terms *ℤ (y *ℤ pos q.denominator) ≡ (x *ℤ y) *ℤ pos (p.denominator * q.denominator)
  bound_is = ap (λ z. z *ℤ (y *ℤ pos q.denominator)) is ∙ both_over x y p.denominator q.denominator

  pub product_most : IsAtMost a q y → IsAtMost a (product_map p q) (x *ℤ y)
  unfolding product_map
  product_most h =
      lowest_most a (product_terms p.terms q.terms) (p.denominator * q.denominator) (x *ℤ y)
      (subst (λ z. z ≤ℤ ((x *ℤ y) *ℤ pos (p.denominator * q.denominator))) (sym product_is)
      (subst (λ z. (value a p.terms *ℤ value a q.terms) ≤ℤ z) bound_is
      (times_most (value a p.terms) (value a q.terms) (y *ℤ pos q.denominator) some h)))

  pub product_least : IsAtLeast a q y → IsAtLeast a (product_map p q) (x *ℤ y)
  unfolding product_map
  product_least h =
      lowest_least a (product_terms p.terms q.terms) (p.denominator * q.denominator) (x *ℤ y)
      (subst (λ z. ((x *ℤ y) *ℤ pos (p.denominator * q.denominator)) ≤ℤ z) (sym product_is)
      (subst (λ z. z ≤ℤ (value a p.terms *ℤ value a q.terms)) bound_is
      (times_most (value a p.terms) (y *ℤ pos q.denominator) (value a q.terms) some h)))
