-- Where slices begin, and how wide they are.
use Rattle.std.proofs.Common.{◌≡◌, ℕ, ◌^◌, ◌≤◌, true, false, Some, Result, Ok, Err, sym, ap, subst, arith}
use Rattle.std.specs.Prelude.{ℤ, pos, negsuc, ◌+ℤ◌, ◌-ℤ◌}
use Rattle.std.proofs.lemmas.Int.{ints}
use Rattle.asl_num.specs.declared.NumFault.{NumFault}
use Rattle.asl_num.specs.declared.NumFault.TheVariants as fault
use Rattle.std.proofs.Math.Nat.{min-eq_right}
use Rattle.std.specs.Prelude.{◌*ℤ◌}
use Rattle.asl_num.specs.Exact.{Fits, IsExact}
use Rattle.asl_rules.specs.values.Operators.{in_range}
use Rattle.asl_value.specs.private.Cutting.{near_start}

fits_range : (z : ℤ) → Fits z → in_range z ≡ true
fits_range (pos n) h = grind (arith, ints)
fits_range (negsuc n) h = grind (arith, ints)

past_range : (z : ℤ) → (Fits z → ⊥) → in_range z ≡ false
past_range (pos n) h = grind (arith, ints)
past_range (negsuc n) h = grind (arith, ints)

-- ---- distances

pub raised_first : (r : Result ℤ NumFault) (h l : ℤ) → IsExact r (h +ℤ pos 1 -ℤ l) → IsExact r (h -ℤ l +ℤ pos 1)
raised_first r h l e = subst (IsExact r) (grind (arith, ints)) e

pub lowered_second : (r : Result ℤ NumFault) (h l : ℤ) → IsExact r (h -ℤ (l -ℤ pos 1)) → IsExact r (h -ℤ l +ℤ pos 1)
lowered_second r h l e = subst (IsExact r) (grind (arith, ints)) e

-- ---- products

pub product : (z k w : ℤ) → IsExact (Ok z) (k *ℤ w) → near_start z ≡ near_start (k *ℤ w)
product z k w h = ap near_start h.1

past : (n : ℕ) → (Fits (pos n) → ⊥) → Some (2 ^ 127) ≡ near_start (pos n)
past n h =
    let k : 2 ^ 127 ≤ n = grind (arith, ints) in
    ap Some (sym (min-eq_right k))

refused : (e : NumFault) (z : ℤ) → IsExact (Err e) z → Fits z → ⊥
refused fault.Overflow z h = h
refused fault.Divisor z h = absurd h
refused fault.Inexact z h = absurd h
refused fault.Negative z h = absurd h
