-- Powers and shifts whose right operand is large: which results still fit, and what they are.
use Rattle.std.proofs.Common.{◌≡◌, ◌≢◌, ℕ, zero, suc, ◌-◌, ◌*◌, ◌/◌, ◌%◌, ◌^◌, ◌<◌, ◌≤◌, Bool, true, false, cond, refl, ◌∙◌, ap, arith, le_trans, pow-suc}
use Rattle.std.proofs.Math.Nat.{pow-le-pow_left, pow-le-pow_right, mul-le-mul_right, div-eq_of_lt}
use Rattle.std.proofs.lemmas.Int.{ints, to_z_pos}
use mir.Val.{to_z}
use Rattle.std.proofs.lemmas.Nat.{one_shl, pow_below}
use Rattle.std.specs.Prelude.{ℤ, pos, negsuc, neg_ℤ, ◌*ℤ◌, ◌≤ℤ◌, ◌<ℤ◌, unsigned_abs, ◌==◌}
use Rattle.std.specs.Int.{w128, int_pow}
use Rattle.std.specs.Int.RustNames.{FitsSigned}
use Rattle.asl_num.specs.Exact.{floor_div}

zero_pow : (n : ℕ) → 0 < n → 0 ^ n ≡ 0
zero_pow zero h = absurd (omega arith)
zero_pow (suc n) h = rw pow-suc (omega arith)

one_pow : (n : ℕ) → 1 ^ n ≡ 1
one_pow zero = refl
one_pow (suc n) = rw pow-suc (rw (one_pow n) refl)

big_pow : (a n : ℕ) → 2 ≤ a → 128 ≤ n → 2 ^ 128 ≤ a ^ n
big_pow a n h k = le_trans (pow-le-pow_right (omega arith) k) (pow-le-pow_left h n)

too_large_by : (b : Bool) (m : ℕ) → 2 ^ 128 ≤ m → FitsSigned w128 (cond b (pos m) (neg_ℤ (pos m))) → ⊥
too_large_by true m h f = omega (arith, f.sfits)
too_large_by false zero h f = omega arith
too_large_by false (suc m) h f = omega (arith, f.sfits)

pub pow_too_large : (a : ℤ) (n : ℕ) → FitsSigned w128 (int_pow a n) → 2 ≤ unsigned_abs a → 128 ≤ n → ⊥
pow_too_large (pos a) n f h k = omega (arith, f.sfits, big_pow a n h k)
pow_too_large (negsuc a) n f h k = too_large_by (n % 2 == 0) (suc a ^ n) (big_pow (suc a) n h k) f

odd_test : (b : Bool) (z : ℤ) → b ≡ false → cond b (pos 1) z ≡ z
odd_test true z h = absurd (cc)
odd_test false z h = refl

not_even : (n : ℕ) → n % 2 ≡ 1 → (n % 2 == 0) ≡ false
not_even n h = rw h refl

pub odd_power : (a : ℤ) (n : ℕ) → unsigned_abs a ≤ 1 → n % 2 ≡ 1 → int_pow a n ≡ a
odd_power (pos zero) n h k = ap pos (zero_pow n (omega arith))
odd_power (pos (suc zero)) n h k = ap pos (one_pow n)
odd_power (pos (suc (suc a))) n h k = absurd (omega arith)
odd_power (negsuc zero) n h k = rw (one_pow n) (odd_test _ _ (not_even n k))
odd_power (negsuc (suc a)) n h k = absurd (omega arith)

pub even_power : (a : ℤ) (n : ℕ) → unsigned_abs a ≤ 1 → (n % 2 ≡ 1 → ⊥) → a ≢ pos 0 → int_pow a n ≡ pos 1
even_power (pos zero) n h k m = absurd (m refl)
even_power (pos (suc zero)) n h k m = ap pos (one_pow n)
even_power (pos (suc (suc a))) n h k m = absurd (omega arith)
even_power (negsuc zero) n h k m = let e : n % 2 ≡ 0 = omega arith in rw (one_pow n, e) refl
even_power (negsuc (suc a)) n h k m = absurd (omega arith)

pub pow_of_zero : (n : ℕ) → 0 < n → int_pow (pos 0) n ≡ pos 0
pow_of_zero n h = ap pos (zero_pow n h)

pub ruleset power_of_units = (odd_power, even_power, pow_of_zero)

big_shift : (k n : ℕ) → k ≤ n → 2 ^ k ≤ 2 ^ n
big_shift k n h = pow-le-pow_right (omega arith) h

not_127 : (n : ℕ) → 127 ≤ n → n ≢ 127 → 128 ≤ n
not_127 n h k = omega arith

one_le_suc : (a : ℕ) → 1 ≤ suc a
one_le_suc a = omega arith

two_le : (a : ℕ) → 2 ≤ suc (suc a)
two_le a = omega arith

neg_large : (m : ℕ) → FitsSigned w128 (neg_ℤ (pos m)) → m ≤ 2 ^ 127
neg_large zero f = omega arith
neg_large (suc m) f = omega (arith, f.sfits)

minus_one_up : (n p : ℕ) → FitsSigned w128 (negsuc 0 *ℤ pos p) → 2 ^ 128 ≤ p → ⊥
minus_one_up n p f h = omega (arith, neg_large (1 * p) f)

negative_up : (a p : ℕ) → FitsSigned w128 (negsuc (suc a) *ℤ pos p) → 2 ^ 127 ≤ p → ⊥
negative_up a p f h =
    omega (arith, neg_large (suc (suc a) * p) f, mul-le-mul_right p (two_le a))

pub one_up : (n : ℕ) → n < 127 → to_z w128 ((1 * 2 ^ n) % 2 ^ 128) ≡ pos (2 ^ n)
one_up n h = let small : 2 ^ n < 2 ^ 127 = pow_below n 127 h in to_z_pos w128 _ (omega (arith, one_shl n 128 (omega arith))) ∙ ap pos (one_shl n 128 (omega arith))

pub one_up_fits : (n : ℕ) → n < 127 → FitsSigned w128 (pos (1 * 2 ^ n % 2 ^ 128))
one_up_fits n h = record { sfits = omega (arith, one_shl n 128 (omega arith), pow_below n 127 h) }

pub zero_up : (n : ℕ) → pos 0 *ℤ pos n ≡ pos 0
zero_up n = ap pos (omega arith)

pub least_up : (n : ℕ) → n ≡ 127 → negsuc 0 *ℤ pos (2 ^ n) ≡ negsuc (2 ^ 127 - 1)
least_up n h = rw h refl

pub shift_too_large : (a : ℤ) (n : ℕ) → FitsSigned w128 (a *ℤ pos (2 ^ n)) → 127 ≤ n → a ≢ pos 0 → (a ≡ negsuc 0 → n ≢ 127) → ⊥
shift_too_large (pos zero) n f h k m = k refl
shift_too_large (pos (suc a)) n f h k m = let e : 2 ^ n ≤ suc a * 2 ^ n = omega (arith, mul-le-mul_right (2 ^ n) (one_le_suc a)) in omega (arith, f.sfits, big_shift 127 n h)
shift_too_large (negsuc zero) n f h k m = minus_one_up n (2 ^ n) f (big_shift 128 n (not_127 n h (m refl)))
shift_too_large (negsuc (suc a)) n f h k m = negative_up a (2 ^ n) f (big_shift 127 n h)

pub down_pos : (a n : ℕ) → a < 2 ^ 127 → 128 ≤ n → a / 2 ^ n ≡ 0
down_pos a n h k = div-eq_of_lt (omega (arith, big_shift 128 n k))

pub down_positive : (a : ℤ) (n : ℕ) → FitsSigned w128 a → 128 ≤ n → pos 0 ≤ℤ a → floor_div a (2 ^ n) ≡ pos 0
down_positive (pos a) n f k h = ap pos (down_pos a n f.sfits k)
down_positive (negsuc a) n f k h = absurd (omega (arith, ints))

pub down_negative : (a : ℤ) (n : ℕ) → FitsSigned w128 a → 128 ≤ n → a <ℤ pos 0 → floor_div a (2 ^ n) ≡ negsuc 0
down_negative (pos a) n f k h = absurd (omega (arith, ints))
down_negative (negsuc a) n f k h = ap negsuc (down_pos a n f.sfits k)

pub ruleset shift_facts = (one_up, one_up_fits, zero_up, least_up, shift_too_large, down_positive, down_negative)
