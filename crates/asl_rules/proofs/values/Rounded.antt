-- Fractions beside integers: an integer lies from a fraction on where it lies from the least integer on that isn't below it, and likewise
-- up to one; and a fraction is a number of bits where it is whole. The same fraction rounds to the same integers.
use Rattle.std.proofs.Common.{◌≡◌, ℕ, suc, ◌/◌, ◌%◌, ◌<◌, ◌==◌, Bool, true, false, refl, sym, ap, ◌∙◌, subst, arith}
use Rattle.std.specs.Prelude.{◌↔◌, ◌≤ℤ◌, if◌then◌else◌, unsigned_abs}
use Rattle.std.proofs.Math.IntN.{ℤ, pos, negsuc, ◌-ℤ◌, ◌*ℤ◌, neg_ℤ, pos-*ℤ-pos}
use Rattle.std.proofs.lemmas.Int.{ints}
use Rattle.std.proofs.lemmas.Bool.Decides.{nat_tests}
use Rattle.asl_num.specs.Exact.{floor_div, floor_mod}
use Rattle.asl_num.proofs.Laws.{floor_law}
use Rattle.asl_poly.specs.Terms.{Polynomial, value}
use Rattle.asl_poly.specs.Fractions.{Fraction, SameFraction, whole, fraction_at}
use Rattle.asl_poly.specs.Poly.{IsPolynomial, HasWidth, SameAt, constant_map}
use Rattle.asl_poly.proofs.Divisors.{divides_exact}
use Rattle.asl_poly.proofs.Bounds.{times_pos, less_of_times}
use Rattle.asl_poly.proofs.Ring.{mul-one, neg-mul, swap_last}
use Rattle.asl_cons.proofs.Covering.{value_constant_map, denominator_constant_map}
use Rattle.asl_cons.proofs.Rounding.{at_most_floor}
use Rattle.asl_rules.specs.types.Closed.{Assignment, floor, ceiling, width_in, width_at}
use Rattle.asl_rules.specs.types.Numbers.{IsWhole}
use Rattle.asl_rules.proofs.widths.Ratios.{Proper, same_trans, width_whole}

-- ---- the integers up to a fraction, and from one on

pub floor_is : (r : Fraction) (z : ℤ) → Proper r → (z ≤ℤ floor r) ↔ ((z *ℤ pos r.denominator) ≤ℤ r.number)
floor_is r z h = at_most_floor z r.number r.denominator h

turned : (x y : ℤ) → (pos 0 -ℤ x) ≤ℤ y → (pos 0 -ℤ y) ≤ℤ x
turned x y h = grind (arith, ints)

negative_times : (z : ℤ) (n : ℕ) → (pos 0 -ℤ z) *ℤ pos n ≡ pos 0 -ℤ z *ℤ pos n
negative_times z n =
    let e : neg_ℤ z *ℤ pos n ≡ neg_ℤ (z *ℤ pos n) = neg-mul z (pos n) in
    let f : pos 0 -ℤ z ≡ neg_ℤ z = omega (arith, ints) in
    let g : neg_ℤ (z *ℤ pos n) ≡ pos 0 -ℤ z *ℤ pos n = omega (arith, ints) in
    ap (λ x. x *ℤ pos n) f ∙ e ∙ g

pub ceiling_is : (r : Fraction) (z : ℤ) → Proper r → (ceiling r ≤ℤ z) ↔ (r.number ≤ℤ (z *ℤ pos r.denominator))
ceiling_is r z h =
    let both = at_most_floor (pos 0 -ℤ z) (pos 0 -ℤ r.number) r.denominator h in
    let e = negative_times z r.denominator in (
      (λ k.
          let a : ((pos 0 -ℤ z) *ℤ pos r.denominator) ≤ℤ (pos 0 -ℤ r.number) =
          both.0 (turned (floor_div (pos 0 -ℤ r.number) r.denominator) z k) in
          let b : (pos 0 -ℤ z *ℤ pos r.denominator) ≤ℤ (pos 0 -ℤ r.number) = subst (λ y. y ≤ℤ (pos 0 -ℤ r.number)) e a in
          grind (arith, ints, b)),
      λ k.
          let a : (pos 0 -ℤ z *ℤ pos r.denominator) ≤ℤ (pos 0 -ℤ r.number) = grind (arith, ints, k) in
          let b : (pos 0 -ℤ z) ≤ℤ floor_div (pos 0 -ℤ r.number) r.denominator = both.1 (subst (λ y. y ≤ℤ (pos 0 -ℤ r.number)) (sym e) a) in
          turned z (floor_div (pos 0 -ℤ r.number) r.denominator) b,
    )

-- ---- the same fraction

module _ (r s : Fraction) (hr : Proper r) (hs : Proper s) (e : SameFraction r s) where
  pub over_same : (z : ℤ) → (z *ℤ pos r.denominator) ≤ℤ r.number → (z *ℤ pos s.denominator) ≤ℤ s.number
  over_same z h =
      let a : ((z *ℤ pos r.denominator) *ℤ pos s.denominator) ≤ℤ (r.number *ℤ pos s.denominator) =
      times_pos (z *ℤ pos r.denominator) r.number s.denominator h in
      let b : ((z *ℤ pos s.denominator) *ℤ pos r.denominator) ≤ℤ (s.number *ℤ pos r.denominator) =
      subst (λ y. y ≤ℤ (s.number *ℤ pos r.denominator)) (swap_last z (pos r.denominator) (pos s.denominator))
      (subst (λ y. ((z *ℤ pos r.denominator) *ℤ pos s.denominator) ≤ℤ y) e a) in
      less_of_times (z *ℤ pos s.denominator) s.number r.denominator hr b

  pub under_same : (z : ℤ) → r.number ≤ℤ (z *ℤ pos r.denominator) → s.number ≤ℤ (z *ℤ pos s.denominator)
  under_same z h =
      let a : (r.number *ℤ pos s.denominator) ≤ℤ ((z *ℤ pos r.denominator) *ℤ pos s.denominator) =
      times_pos r.number (z *ℤ pos r.denominator) s.denominator h in
      let b : (s.number *ℤ pos r.denominator) ≤ℤ ((z *ℤ pos s.denominator) *ℤ pos r.denominator) =
      subst (λ y. (s.number *ℤ pos r.denominator) ≤ℤ y) (swap_last z (pos r.denominator) (pos s.denominator))
      (subst (λ y. y ≤ℤ ((z *ℤ pos r.denominator) *ℤ pos s.denominator)) e a) in
      less_of_times s.number (z *ℤ pos s.denominator) r.denominator hr b

  floor_up : floor r ≤ℤ floor s
  floor_up = (floor_is s (floor r) hs).1 (over_same (floor r) ((floor_is r (floor r) hr).0 (same_le (floor r))))
    where
      same_le : (z : ℤ) → z ≤ℤ z
      same_le z = grind (arith, ints)

  ceiling_down : ceiling s ≤ℤ ceiling r
  ceiling_down = (ceiling_is s (ceiling r) hs).1 (under_same (ceiling r) ((ceiling_is r (ceiling r) hr).0 (same_le (ceiling r))))
    where
      same_le : (z : ℤ) → z ≤ℤ z
      same_le z = grind (arith, ints)

one_of_two : (x y : ℤ) → x ≤ℤ y → y ≤ℤ x → x ≡ y
one_of_two x y h k = omega (arith, ints)

pub same_floor : (r s : Fraction) → Proper r → Proper s → SameFraction r s → floor r ≡ floor s
same_floor r s h k e = one_of_two (floor r) (floor s) (floor_up r s h k e) (floor_up s r k h (sym e))

pub same_ceiling : (r s : Fraction) → Proper r → Proper s → SameFraction r s → ceiling r ≡ ceiling s
same_ceiling r s h k e = one_of_two (ceiling r) (ceiling s) (ceiling_down s r k h (sym e)) (ceiling_down r s h k e)

-- ---- numbers of bits

-- a fraction whose number has no remainder is whole
whole_of_none : (r : Fraction) → Proper r → floor_mod r.number r.denominator ≡ 0 → IsWhole (floor r) r
whole_of_none r h e =
    let l = floor_law r.number r.denominator h in
    let m : floor r *ℤ pos r.denominator ≡ r.number =
    let f : pos (floor_mod r.number r.denominator) ≡ pos 0 = ap pos e in omega (arith, ints, l.0, f) in
    mul-one r.number ∙ sym m

pub none_of_whole : (r : Fraction) (z : ℤ) → Proper r → IsWhole z r → (floor r ≡ z) × (floor_mod r.number r.denominator ≡ 0)
none_of_whole r z h w =
    let n : r.number ≡ z *ℤ pos r.denominator = sym (mul-one r.number) ∙ w in
    let up : z ≤ℤ floor r = (floor_is r z h).1 (grind (arith, ints, n)) in
    let at : (floor r *ℤ pos r.denominator) ≤ℤ (z *ℤ pos r.denominator) =
    subst (λ y. (floor r *ℤ pos r.denominator) ≤ℤ y) n ((floor_is r (floor r) h).0 (grind (arith, ints))) in
    let e : floor r ≡ z = one_of_two (floor r) z (less_of_times (floor r) z r.denominator h at) up in
    let l = floor_law r.number r.denominator h in
    let f : floor r *ℤ pos r.denominator ≡ z *ℤ pos r.denominator = ap (λ y. y *ℤ pos r.denominator) e in
    (e, omega (arith, ints, l.0, f, n))

-- ---- multiples

multiple_of : (y : ℤ) (k : ℕ) → unsigned_abs y % k ≡ 0 → (w : ℤ) × (y ≡ w *ℤ pos k)
multiple_of (pos a) k e = (pos (a / k), sym (pos-*ℤ-pos (a / k) k ∙ ap pos (divides_exact k a e)))
multiple_of (negsuc a) k e =
    (neg_ℤ (pos (suc a / k)), sym (neg-mul (pos (suc a / k)) (pos k) ∙ ap neg_ℤ (pos-*ℤ-pos (suc a / k) k ∙ ap pos (divides_exact k (suc a) e))))

-- the quotient of a multiple
pub exact_is : (y : ℤ) (k : ℕ) → 0 < k → unsigned_abs y % k ≡ 0 → y ≡ floor_div y k *ℤ pos k
exact_is y k h e =
    let w = multiple_of y k e in
    let n = none_of_whole (record { number = y; denominator = k }) w.0 h (mul-one y ∙ w.1) in
    w.1 ∙ ap (λ z. z *ℤ pos k) (sym n.0)

is_zero_nat : (n : ℕ) → (n == 0) ≡ true → n ≡ 0
is_zero_nat n h = grind (arith, nat_tests)

zero_is_nat : (n : ℕ) → n ≡ 0 → (n == 0) ≡ true
zero_is_nat n h = grind (arith, nat_tests)

-- a whole fraction is its integer
pub width_of_whole : (r : Fraction) (z : ℤ) → Proper r → IsWhole z r → width_in r ≡ z
width_of_whole r z h w =
    let n = none_of_whole r z h w in
    ap (λ b. if b then floor r else negsuc 0) (zero_is_nat (floor_mod r.number r.denominator) n.1) ∙ n.0

-- what is a number of bits is whole
pub whole_of_width : (r : Fraction) (n : ℕ) → Proper r → width_in r ≡ pos n → IsWhole (pos n) r
whole_of_width r n h e = by (floor_mod r.number r.denominator == 0) refl
  where
    never : negsuc 0 ≡ pos n → ⊥
    never k = cc

    by : (b : Bool) → (floor_mod r.number r.denominator == 0) ≡ b → IsWhole (pos n) r
    by true k =
        let m : floor r ≡ pos n = sym (ap (λ b. if b then floor r else negsuc 0) k) ∙ e in
        subst (λ z. IsWhole z r) m (whole_of_none r h (is_zero_nat (floor_mod r.number r.denominator) k))
    by false k = absurd (never (sym (ap (λ b. if b then floor r else negsuc 0) k) ∙ e))

-- the same fraction is the same number of bits
pub same_width_in : (r s : Fraction) → Proper r → Proper s → SameFraction r s → width_in r ≡ width_in s
same_width_in r s h k e = by (floor_mod r.number r.denominator == 0) (floor_mod s.number s.denominator == 0) refl refl
  where
    -- one that is the same as a whole one is whole
    also : (p q : Fraction) → Proper p → Proper q → SameFraction p q → (floor_mod p.number p.denominator == 0) ≡ true →
        width_in p ≡ width_in q
    also p q i j f b =
        let w : IsWhole (floor p) p = whole_of_none p i (is_zero_nat (floor_mod p.number p.denominator) b) in
        width_of_whole p (floor p) i w ∙ sym (width_of_whole q (floor p) j (moved p q (floor p) i f w))
      where
        moved : (p q : Fraction) (z : ℤ) → Proper p → SameFraction p q → IsWhole z p → IsWhole z q
        moved p q z i f w = same_trans q p (whole z) i (sym f) w

    by : (b c : Bool) → (floor_mod r.number r.denominator == 0) ≡ b → (floor_mod s.number s.denominator == 0) ≡ c → width_in r ≡ width_in s
    by true c f g = also r s h k e f
    by false true f g = sym (also s r k h (sym e) g)
    by false false f g = ap (λ b. if b then floor r else negsuc 0) f ∙ sym (ap (λ b. if b then floor s else negsuc 0) g)

-- ---- widths at integers

module _ (a : Assignment) where
  -- an integer that a width is
  pub width_at_is : (p : Polynomial) (z : ℤ) → IsPolynomial p → HasWidth p a z → width_at p a ≡ z
  width_at_is p z h w = width_of_whole (fraction_at a p) z h.lowest.positive (width_whole a p z w)

  -- bits of a width are as many as it is
  pub is_width_at : (p : Polynomial) (n : ℕ) → IsPolynomial p → width_at p a ≡ pos n → HasWidth p a (pos n)
  is_width_at p n h e = sym (mul-one (value a p.terms)) ∙ whole_of_width (fraction_at a p) n h.lowest.positive e

  pub same_width_at : (p q : Polynomial) → IsPolynomial p → IsPolynomial q → SameAt a p q → width_at p a ≡ width_at q a
  same_width_at p q h k e = same_width_in (fraction_at a p) (fraction_at a q) h.lowest.positive k.lowest.positive e

  -- terms without atoms over 1
  pub constant_width : (p : Polynomial) (z : ℤ) → (value a p.terms ≡ z) × (p.denominator ≡ 1) → width_at p a ≡ z
  constant_width p z w =
      width_of_whole (fraction_at a p) z (subst (λ n. 0 < n) (sym w.1) (omega arith))
      (mul-one (value a p.terms) ∙ w.0 ∙ sym (ap (λ n. z *ℤ pos n) w.1 ∙ mul-one z))

  -- the width that a number is
  pub constant_at : (z : ℤ) → width_at (constant_map z) a ≡ z
  constant_at z =
      let some : 0 < (constant_map z).denominator = subst (λ n. 0 < n) (sym (denominator_constant_map z)) (omega arith) in
      width_of_whole (fraction_at a (constant_map z)) z some
      (mul-one (value a (constant_map z).terms) ∙ value_constant_map a z ∙ sym (one_over z))
    where
      one_over : (z : ℤ) → z *ℤ pos (constant_map z).denominator ≡ z
      one_over z = ap (λ n. z *ℤ pos n) (denominator_constant_map z) ∙ mul-one z
