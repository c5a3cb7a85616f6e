-- Lists of bits and numbers: each gives the other back, and each operation on numbers is one on their bits.
use Rattle.std.proofs.Common.{◌≡◌, ℕ, zero, suc, ◌+◌, ◌-◌, ◌*◌, ◌/◌, ◌%◌, ◌^◌, ◌<◌, ◌≤◌, List, [], ◌∷◌, ◌++◌, length, take, drop, map, replicate, get_or, Bool, true, false, not, refl, sym, ◌∙◌, ap, subst, arith, pow-suc}
use Rattle.std.specs.Prelude.{◌==◌, bit_and, bit_or, bit_xor}
use Rattle.std.specs.Int.{from_bool}
use Rattle.std.proofs.Math.Nat.{mod-eq_of_lt}
use Rattle.std.proofs.lemmas.Nat.{pow_pos, shr-shr, mod-pow-add, and_shr, or_shr, xor_shr, and_mod, or_mod, xor_mod, mod_below}
use Rattle.asl_bits.specs.Lists.{bits_value, bits_of, both, and_bit, or_bit, xor_bit}

pub twice : (n : ℕ) → 2 ^ suc n ≡ 2 * 2 ^ n
twice n = rw pow-suc (omega arith)

bit_number : (n : ℕ) → from_bool (n % 2 == 1) ≡ n % 2
bit_number n = bit_number_at (n % 2) (omega arith)
  where
    bit_number_at : (r : ℕ) → r < 2 → from_bool (r == 1) ≡ r
    bit_number_at zero h = refl
    bit_number_at (suc zero) h = refl
    bit_number_at (suc (suc r)) h = absurd (omega arith)

number_bit : (b : Bool) (n : ℕ) → ((from_bool b + 2 * n) % 2 == 1) ≡ b
number_bit true n = let e : (1 + 2 * n) % 2 ≡ 1 = omega arith in rw e refl
number_bit false n = let e : (0 + 2 * n) % 2 ≡ 0 = omega arith in rw e refl

number_rest : (b : Bool) (n : ℕ) → (from_bool b + 2 * n) / 2 ≡ n
number_rest true n = omega arith
number_rest false n = omega arith

pub length-bits_of : (w n : ℕ) → length (bits_of w n) ≡ w
unfolding bits_of
length-bits_of zero n = refl
length-bits_of (suc w) n = omega (arith, length-bits_of w (n / 2))

pub value_of_bits : (w n : ℕ) → bits_value (bits_of w n) ≡ n % 2 ^ w
unfolding bits_of bits_value
value_of_bits zero n = omega arith
value_of_bits (suc w) n =
    let s : suc w ≡ w + 1 = omega arith in
    let e : n % 2 ^ suc w ≡ n / 2 ^ 1 % 2 ^ w * 2 ^ 1 + n % 2 ^ 1 = ap (λ (m : ℕ). n % 2 ^ m) s ∙ mod-pow-add n w 1 in
    let ih : bits_value (bits_of w (n / 2)) ≡ n / 2 % 2 ^ w = value_of_bits w (n / 2) in
    omega (arith, bit_number n, e, ih)

pub value_below : (w n : ℕ) → n < 2 ^ w → bits_value (bits_of w n) ≡ n
value_below w n h = value_of_bits w n ∙ mod-eq_of_lt h

pub bits_of_value : (bs : List Bool) → bits_of (length bs) (bits_value bs) ≡ bs
unfolding bits_of bits_value
bits_of_value [] = refl
bits_of_value (b ∷ bs) = rw (number_bit, number_rest, bits_of_value bs) refl

pub value_small : (bs : List Bool) → bits_value bs < 2 ^ length bs
value_small bs = subst (λ (m : ℕ). m < 2 ^ length bs) (sym (value_of_bits (length bs) (bits_value bs)) ∙ ap bits_value (bits_of_value bs)) (mod_below _ _ (pow_pos (length bs)))

-- ---- each operation

pub zero_bits : (w : ℕ) → bits_of w 0 ≡ replicate w false
unfolding bits_of
zero_bits zero = refl
zero_bits (suc w) = ap (λ (bs : List Bool). false ∷ bs) (zero_bits w)

turn_half : (n w : ℕ) → n < 2 ^ suc w → (2 ^ suc w - 1 - n) / 2 ≡ 2 ^ w - 1 - n / 2
turn_half n w h = omega (arith, twice w, pow_pos w)

turn_bit : (n w : ℕ) → n < 2 ^ suc w → ((2 ^ suc w - 1 - n) % 2 == 1) ≡ not (n % 2 == 1)
turn_bit n w h = at (n % 2) _ (omega arith) (omega (arith, twice w, pow_pos w))
  where
    at : (r s : ℕ) → r < 2 → s ≡ 1 - r → (s == 1) ≡ not (r == 1)
    at zero s k e = rw e refl
    at (suc zero) s k e = rw e refl
    at (suc (suc r)) s k e = absurd (omega arith)

pub turned_bits : (w n : ℕ) → n < 2 ^ w → bits_of w (2 ^ w - 1 - n) ≡ map not (bits_of w n)
unfolding bits_of
turned_bits zero n h = refl
turned_bits (suc w) n h =
    let k : n / 2 < 2 ^ w = omega (arith, twice w) in
    rw (turn_bit n w h, turn_half n w h, turned_bits w (n / 2) k) refl

pub low_bits : (w n : ℕ) → bits_of w (n % 2 ^ w) ≡ bits_of w n
low_bits w n =
    ap (bits_of w) (sym (value_of_bits w n))
    ∙ ap (λ (m : ℕ). bits_of m (bits_value (bits_of w n))) (sym (length-bits_of w n))
    ∙ bits_of_value (bits_of w n)

pub take_bits : (k w n : ℕ) → k ≤ w → take k (bits_of w n) ≡ bits_of k n
unfolding bits_of
take_bits zero w n h = refl
take_bits (suc k) zero n h = absurd (omega arith)
take_bits (suc k) (suc w) n h = ap (λ (bs : List Bool). (n % 2 == 1) ∷ bs) (take_bits k w (n / 2) (omega arith))

pub drop_bits : (k w n : ℕ) → k ≤ w → drop k (bits_of w n) ≡ bits_of (w - k) (n / 2 ^ k)
unfolding bits_of
drop_bits zero w n h = let e : n / 2 ^ 0 ≡ n = omega arith in let f : w - 0 ≡ w = omega arith in rw (e, f) refl
drop_bits (suc k) zero n h = absurd (omega arith)
drop_bits (suc k) (suc w) n h =
    let e : 1 + k ≡ suc k = omega arith in
    let f : n / 2 / 2 ^ k ≡ n / 2 ^ suc k = shr-shr n 1 k ∙ ap (λ (m : ℕ). n / 2 ^ m) e in
    let g : w - k ≡ suc w - suc k = omega arith in
    drop_bits k w (n / 2) (omega arith) ∙ ap (bits_of (w - k)) f ∙ ap (λ (m : ℕ). bits_of m (n / 2 ^ suc k)) g

pub cat_bits : (k w n h : ℕ) → n < 2 ^ k → bits_of (k + w) (h * 2 ^ k + n) ≡ bits_of k n ++ bits_of w h
unfolding bits_of
cat_bits zero w n h small = let e : h * 2 ^ 0 + n ≡ h = omega arith in let f : 0 + w ≡ w = omega arith in rw (e, f) refl
cat_bits (suc k) w n h small =
    let s : suc k + w ≡ suc (k + w) = omega arith in
    let d : h * 2 ^ suc k ≡ 2 * (h * 2 ^ k) = rw (twice k) (omega arith) in
    let e : (h * 2 ^ suc k + n) / 2 ≡ h * 2 ^ k + n / 2 = omega arith in
    let f : (h * 2 ^ suc k + n) % 2 ≡ n % 2 = omega arith in
    rw s (rw (e, f, cat_bits k w (n / 2) h (omega (arith, twice k))) refl)

and_head : (r s : ℕ) → r < 2 → s < 2 → (bit_and r s == 1) ≡ and_bit (r == 1) (s == 1)
and_head zero zero h k = refl
and_head zero (suc zero) h k = refl
and_head (suc zero) zero h k = refl
and_head (suc zero) (suc zero) h k = refl
and_head (suc (suc r)) s h k = absurd (omega arith)
and_head r (suc (suc s)) h k = absurd (omega arith)

or_head : (r s : ℕ) → r < 2 → s < 2 → (bit_or r s == 1) ≡ or_bit (r == 1) (s == 1)
or_head zero zero h k = refl
or_head zero (suc zero) h k = refl
or_head (suc zero) zero h k = refl
or_head (suc zero) (suc zero) h k = refl
or_head (suc (suc r)) s h k = absurd (omega arith)
or_head r (suc (suc s)) h k = absurd (omega arith)

xor_head : (r s : ℕ) → r < 2 → s < 2 → (bit_xor r s == 1) ≡ xor_bit (r == 1) (s == 1)
xor_head zero zero h k = refl
xor_head zero (suc zero) h k = refl
xor_head (suc zero) zero h k = refl
xor_head (suc zero) (suc zero) h k = refl
xor_head (suc (suc r)) s h k = absurd (omega arith)
xor_head r (suc (suc s)) h k = absurd (omega arith)

two : (n : ℕ) → n % 2 < 2
two n = omega arith

pub and_bits : (w m n : ℕ) → bits_of w (bit_and m n) ≡ both and_bit (bits_of w m) (bits_of w n)
unfolding bits_of both
and_bits zero m n = refl
and_bits (suc w) m n = rw (and_mod m n 1, and_shr m n 1, and_head (m % 2) (n % 2) (two m) (two n), and_bits w (m / 2) (n / 2)) refl

pub or_bits : (w m n : ℕ) → bits_of w (bit_or m n) ≡ both or_bit (bits_of w m) (bits_of w n)
unfolding bits_of both
or_bits zero m n = refl
or_bits (suc w) m n = rw (or_mod m n 1, or_shr m n 1, or_head (m % 2) (n % 2) (two m) (two n), or_bits w (m / 2) (n / 2)) refl

pub xor_bits : (w m n : ℕ) → bits_of w (bit_xor m n) ≡ both xor_bit (bits_of w m) (bits_of w n)
unfolding bits_of both
xor_bits zero m n = refl
xor_bits (suc w) m n = rw (xor_mod m n 1, xor_shr m n 1, xor_head (m % 2) (n % 2) (two m) (two n), xor_bits w (m / 2) (n / 2)) refl

pub get_bit : (w n k : ℕ) → k < w → get_or (bits_of w n) k false ≡ (n / 2 ^ k % 2 == 1)
unfolding bits_of
get_bit zero n k h = absurd (omega arith)
get_bit (suc w) n zero h = let e : n / 2 ^ 0 ≡ n = omega arith in rw e refl
get_bit (suc w) n (suc k) h =
    let e : 1 + k ≡ suc k = omega arith in
    get_bit w (n / 2) k (omega arith) ∙ ap (λ (m : ℕ). m % 2 == 1) (shr-shr n 1 k ∙ ap (λ (m : ℕ). n / 2 ^ m) e)

pub same_bits : (w m n : ℕ) → m < 2 ^ w → n < 2 ^ w → bits_of w m ≡ bits_of w n → m ≡ n
same_bits w m n h k e = sym (value_below w m h) ∙ ap bits_value e ∙ value_below w n k
