-- The laws of division and of powers.
use Rattle.std.proofs.Common.{◌≡◌, ℕ, zero, suc, ◌+◌, ◌-◌, ◌*◌, ◌/◌, ◌%◌, ◌^◌, ◌<◌, Bool, true, false, cond, not, refl, ◌∙◌, ap, arith, pow-suc}
use Rattle.std.proofs.Math.Nat.{pow-zero}
use Rattle.std.proofs.lemmas.Int.{ints}
use Rattle.std.proofs.lemmas.Nat.{div-add-mod', mod_below}
use Rattle.std.specs.Prelude.{ℤ, pos, negsuc, neg_ℤ, ◌+ℤ◌, ◌*ℤ◌, ◌==◌}
use Rattle.std.specs.Int.{int_pow}
use Rattle.asl_num.specs.Exact.{floor_div, floor_mod}

floor_of_negative : (a n : ℕ) → 0 < n → neg_ℤ (pos (suc (a / n) * n)) +ℤ pos (n - 1 - a % n) ≡ negsuc a
floor_of_negative a n h = omega (arith, ints, div-add-mod' a n, mod_below a n h)

pub floor_law : (a : ℤ) (n : ℕ) → 0 < n → (floor_div a n *ℤ pos n +ℤ pos (floor_mod a n) ≡ a) × (floor_mod a n < n)
floor_law (pos a) n h = (ap pos (div-add-mod' a n), mod_below a n h)
floor_law (negsuc a) n h = (floor_of_negative a n h, omega arith)

signs_alternate : (b : Bool) (m k : ℕ) → cond (not b) (pos (m * suc k)) (neg_ℤ (pos (m * suc k))) ≡ cond b (pos m) (neg_ℤ (pos m)) *ℤ negsuc k
signs_alternate true m k = refl
signs_alternate false zero k = omega (arith, ints)
signs_alternate false (suc m) k = omega (arith, ints)

odd_next : (n : ℕ) → (suc n % 2 == 0) ≡ not (n % 2 == 0)
odd_next n = at (n % 2) (suc n % 2) (omega arith) (omega arith)
  where
    at : (r s : ℕ) → r < 2 → s ≡ 1 - r → (s == 0) ≡ not (r == 0)
    at zero s h e = ap (λ (m : ℕ). m == 0) e
    at (suc zero) s h e = ap (λ (m : ℕ). m == 0) e
    at (suc (suc r)) s h e = absurd (omega arith)

power_next : (a : ℤ) (n : ℕ) → int_pow a (suc n) ≡ int_pow a n *ℤ a
power_next (pos a) n = ap pos (pow-suc a n)
power_next (negsuc a) n =
    ap (λ (m : ℕ). cond (suc n % 2 == 0) (pos m) (neg_ℤ (pos m))) (pow-suc (suc a) n)
    ∙ ap (λ (b : Bool). cond b (pos (suc a ^ n * suc a)) (neg_ℤ (pos (suc a ^ n * suc a)))) (odd_next n)
    ∙ signs_alternate (n % 2 == 0) (suc a ^ n) a

power_zero : (a : ℤ) → int_pow a 0 ≡ pos 1
power_zero (pos a) = ap pos (pow-zero a)
power_zero (negsuc a) = ap pos (pow-zero (suc a))

pub power_law : (a : ℤ) (n : ℕ) → (int_pow a 0 ≡ pos 1) × (int_pow a (n + 1) ≡ int_pow a n *ℤ a)
power_law a n = let e : n + 1 ≡ suc n = omega arith in (power_zero a, ap (int_pow a) e ∙ power_next a n)
