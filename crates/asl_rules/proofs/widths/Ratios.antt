-- Fractions that are the same, where their denominators are above 0, and what operations make of them: the same again.
use Rattle.std.proofs.Common.{◌≡◌, ℕ, ◌*◌, ◌<◌, sym, ap, ap₂, ◌∙◌, arith}
use Rattle.std.proofs.Math.IntN.{ℤ, pos, ◌+ℤ◌, ◌-ℤ◌, ◌*ℤ◌, *ℤ_comm, pos-*ℤ-pos}
use Rattle.asl_poly.specs.Terms.{Polynomial, value}
use Rattle.asl_poly.specs.Fractions.{Fraction, SameFraction, whole, plus, times, fraction_at}
use Rattle.asl_poly.specs.Poly.{IsPolynomial, HasWidth, constant_map, sum_map, difference_map, product_map, quotient_map}
use Rattle.asl_poly.proofs.Ring.{mul-one, add-mul, mul_assoc, swap_last}
use Rattle.asl_poly.proofs.LowestTerms.{cancel_one}
use Rattle.asl_poly.proofs.Maps.{sub-mul, some_product, sum_value, difference_value, product_value, quotient_value}
use Rattle.asl_cons.proofs.Covering.{int_end}
use Rattle.asl_rules.specs.types.Numbers.{less, parted, IsWhole}

-- the denominator is above 0
abbrev pub Proper : Fraction → Type 0
Proper r = 0 < r.denominator

pub same_trans : (r s t : Fraction) → Proper s → SameFraction r s → SameFraction s t → SameFraction r t
same_trans r s t h e f =
    let a : (r.number *ℤ pos t.denominator) *ℤ pos s.denominator ≡ (s.number *ℤ pos r.denominator) *ℤ pos t.denominator =
    swap_last r.number (pos t.denominator) (pos s.denominator) ∙ ap (λ z. z *ℤ pos t.denominator) e in
    let b : (s.number *ℤ pos r.denominator) *ℤ pos t.denominator ≡ (t.number *ℤ pos s.denominator) *ℤ pos r.denominator =
    swap_last s.number (pos r.denominator) (pos t.denominator) ∙ ap (λ z. z *ℤ pos r.denominator) f in
    cancel_one (r.number *ℤ pos t.denominator) (t.number *ℤ pos r.denominator) s.denominator h
    (a ∙ b ∙ swap_last t.number (pos s.denominator) (pos r.denominator))

four : (x d y e : ℤ) → (x *ℤ d) *ℤ (y *ℤ e) ≡ (x *ℤ y) *ℤ (d *ℤ e)
four x d y e =
    mul_assoc x d (y *ℤ e) ∙ ap (λ z. x *ℤ z) (sym (mul_assoc d y e) ∙ ap (λ z. z *ℤ e) (*ℤ_comm d y) ∙ mul_assoc y d e)
    ∙ sym (mul_assoc x y (d *ℤ e))

-- the first of two numbers over the product of two denominators
left_part : (x y : ℤ) (d e b c : ℕ) → x *ℤ pos e ≡ y *ℤ pos d → (x *ℤ pos b) *ℤ pos (e * c) ≡ (y *ℤ pos c) *ℤ pos (d * b)
left_part x y d e b c h =
    let u : (x *ℤ pos b) *ℤ pos (e * c) ≡ (x *ℤ pos e) *ℤ (pos b *ℤ pos c) =
    ap (λ z. (x *ℤ pos b) *ℤ z) (sym (pos-*ℤ-pos e c)) ∙ four x (pos b) (pos e) (pos c) in
    let w : (y *ℤ pos d) *ℤ (pos c *ℤ pos b) ≡ (y *ℤ pos c) *ℤ pos (d * b) =
    sym (four y (pos c) (pos d) (pos b)) ∙ ap (λ z. (y *ℤ pos c) *ℤ z) (pos-*ℤ-pos d b) in
    u ∙ ap₂ (λ z n. z *ℤ n) h (*ℤ_comm (pos b) (pos c)) ∙ w

right_part : (x y : ℤ) (d e b c : ℕ) → x *ℤ pos e ≡ y *ℤ pos d → (x *ℤ pos b) *ℤ pos (c * e) ≡ (y *ℤ pos c) *ℤ pos (b * d)
right_part x y d e b c h =
    let m : c * e ≡ e * c = omega arith in
    let n : d * b ≡ b * d = omega arith in
    ap (λ k. (x *ℤ pos b) *ℤ pos k) m ∙ left_part x y d e b c h ∙ ap (λ k. (y *ℤ pos c) *ℤ pos k) n

pub plus_same : (r s t u : Fraction) → SameFraction r t → SameFraction s u → SameFraction (plus r s) (plus t u)
plus_same r s t u e f =
    add-mul (r.number *ℤ pos s.denominator) (s.number *ℤ pos r.denominator) (pos (t.denominator * u.denominator))
    ∙ ap₂ (λ x y. x +ℤ y) (left_part r.number t.number r.denominator t.denominator s.denominator u.denominator e)
    (right_part s.number u.number s.denominator u.denominator r.denominator t.denominator f)
    ∙ sym (add-mul (t.number *ℤ pos u.denominator) (u.number *ℤ pos t.denominator) (pos (r.denominator * s.denominator)))

pub less_same : (r s t u : Fraction) → SameFraction r t → SameFraction s u → SameFraction (less r s) (less t u)
less_same r s t u e f =
    sub-mul (r.number *ℤ pos s.denominator) (s.number *ℤ pos r.denominator) (pos (t.denominator * u.denominator))
    ∙ ap₂ (λ x y. x -ℤ y) (left_part r.number t.number r.denominator t.denominator s.denominator u.denominator e)
    (right_part s.number u.number s.denominator u.denominator r.denominator t.denominator f)
    ∙ sym (sub-mul (t.number *ℤ pos u.denominator) (u.number *ℤ pos t.denominator) (pos (r.denominator * s.denominator)))

pub times_same : (r s t u : Fraction) → SameFraction r t → SameFraction s u → SameFraction (times r s) (times t u)
times_same r s t u e f =
    ap (λ z. (r.number *ℤ s.number) *ℤ z) (sym (pos-*ℤ-pos t.denominator u.denominator))
    ∙ four r.number s.number (pos t.denominator) (pos u.denominator)
    ∙ ap₂ (λ x y. x *ℤ y) e f
    ∙ sym (four t.number u.number (pos r.denominator) (pos s.denominator))
    ∙ ap (λ z. (t.number *ℤ u.number) *ℤ z) (pos-*ℤ-pos r.denominator s.denominator)

pub parted_same : (r s : Fraction) (k : ℕ) → SameFraction r s → SameFraction (parted r k) (parted s k)
parted_same r s k e =
    ap (λ z. r.number *ℤ z) (sym (pos-*ℤ-pos s.denominator k)) ∙ sym (mul_assoc r.number (pos s.denominator) (pos k))
    ∙ ap (λ z. z *ℤ pos k) e
    ∙ mul_assoc s.number (pos r.denominator) (pos k) ∙ ap (λ z. s.number *ℤ z) (pos-*ℤ-pos r.denominator k)

pub some_both : (r s : Fraction) → Proper r → Proper s → 0 < r.denominator * s.denominator
some_both r s h k = some_product r.denominator s.denominator h k

pub some_parted : (r : Fraction) (k : ℕ) → Proper r → 0 < k → Proper (parted r k)
some_parted r k h l = some_product r.denominator k h l

-- ---- polynomials at integers

module _ (a : ℕ → ℤ) where
  pub constant_same : (z : ℤ) → SameFraction (fraction_at a (constant_map z)) (whole z)
  constant_same z = mul-one (value a (constant_map z).terms) ∙ int_end z a

  pub sum_same : (p q : Polynomial) → IsPolynomial p → IsPolynomial q →
      SameFraction (fraction_at a (sum_map p q)) (plus (fraction_at a p) (fraction_at a q))
  unfolding sum_map
  sum_same p q h k = sum_value a p q h k

  pub difference_same : (p q : Polynomial) → IsPolynomial p → IsPolynomial q →
      SameFraction (fraction_at a (difference_map p q)) (less (fraction_at a p) (fraction_at a q))
  unfolding difference_map
  difference_same p q h k = difference_value a p q h k

  pub product_same : (p q : Polynomial) → IsPolynomial p → IsPolynomial q →
      SameFraction (fraction_at a (product_map p q)) (times (fraction_at a p) (fraction_at a q))
  unfolding product_map
  product_same p q h k = product_value a p q h k

  pub quotient_same : (p : Polynomial) (k : ℕ) → IsPolynomial p → 0 < k →
      SameFraction (fraction_at a (quotient_map p k)) (parted (fraction_at a p) k)
  unfolding quotient_map
  quotient_same p k h l = quotient_value a p k h l

  -- an integer that a polynomial is
  pub width_whole : (p : Polynomial) (z : ℤ) → HasWidth p a z → IsWhole z (fraction_at a p)
  width_whole p z h = mul-one (value a p.terms) ∙ h

  pub whole_width : (p : Polynomial) (z : ℤ) → IsWhole z (fraction_at a p) → HasWidth p a z
  whole_width p z h = sym (mul-one (value a p.terms)) ∙ h
