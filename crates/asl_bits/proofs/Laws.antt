-- The two laws: numbers and lists of bits, two's complement, and extensions.
use Rattle.std.proofs.Common.{◌≡◌, ℕ, zero, suc, ◌+◌, ◌-◌, ◌*◌, ◌%◌, ◌^◌, ◌<◌, ◌≤◌, List, [], ◌∷◌, ◌++◌, length, replicate, get_or, Bool, true, false, refl, sym, ◌∙◌, ap, arith, length-append}
use Rattle.std.proofs.lemmas.List.{length-replicate, append-nil, get_or-append_right, get_or-replicate}
use Rattle.std.proofs.lemmas.Int.{ints}
use Rattle.std.proofs.lemmas.Nat.{pow-add}
use Rattle.std.proofs.Math.Nat.{mod-eq_of_lt, mul_assoc}
use Rattle.std.specs.Prelude.{pos, negsuc, ◌-ℤ◌}
use Rattle.asl_bits.specs.Lists.{bits_value, int_bits, top_bit, signed_value, extension_of}
use Rattle.asl_bits.proofs.Lists.{twice, length-bits_of, value_of_bits, bits_of_value, value_small, low_bits}

pub ruleset number_laws = (length-bits_of, value_of_bits, bits_of_value, value_small)

-- ---- two's complement

below_zero : (v p : ℕ) → v < p → pos v -ℤ pos p ≡ negsuc (p - v - 1)
below_zero v p h = omega (arith, ints)

negative_mod : (v p : ℕ) → v < p → p - 1 - (p - v - 1) % p ≡ v
negative_mod v p h = let e : (p - v - 1) % p ≡ p - v - 1 = mod-eq_of_lt (omega arith) in rw e (omega arith)

signed_by : (bs : List Bool) (t : Bool) → top_bit bs ≡ t → int_bits (length bs) (signed_value bs) ≡ bs
signed_by bs false e = rw e (low_bits (length bs) (bits_value bs) ∙ bits_of_value bs)
signed_by bs true e =
    rw (e, below_zero (bits_value bs) (2 ^ length bs) (value_small bs), negative_mod (bits_value bs) (2 ^ length bs) (value_small bs)) (bits_of_value bs)

pub int_bits-signed_value : (bs : List Bool) → int_bits (length bs) (signed_value bs) ≡ bs
int_bits-signed_value bs = signed_by bs (top_bit bs) refl

-- ---- extensions

pub bits_value-append : (xs ys : List Bool) → bits_value (xs ++ ys) ≡ bits_value xs + 2 ^ length xs * bits_value ys
unfolding bits_value
bits_value-append [] ys = omega arith
bits_value-append (x ∷ xs) ys =
    let m : 2 ^ suc (length xs) * bits_value ys ≡ 2 * (2 ^ length xs * bits_value ys) = rw (twice (length xs)) (mul_assoc 2 (2 ^ length xs) (bits_value ys)) in
    omega (arith, bits_value-append xs ys, m)

pub bits_value-zeros : (n : ℕ) → bits_value (replicate n false) ≡ 0
unfolding bits_value
bits_value-zeros zero = refl
bits_value-zeros (suc n) = omega (arith, bits_value-zeros n)

pub bits_value-ones : (n : ℕ) → bits_value (replicate n true) + 1 ≡ 2 ^ n
unfolding bits_value
bits_value-ones zero = refl
bits_value-ones (suc n) = omega (arith, bits_value-ones n, twice n)

pub bits_value-extension : (bs : List Bool) (n : ℕ) → length bs ≤ n → bits_value (extension_of bs n false) ≡ bits_value bs
bits_value-extension bs n h =
    let e : bits_value (bs ++ replicate (n - length bs) false) ≡ bits_value bs + 2 ^ length bs * bits_value (replicate (n - length bs) false) = bits_value-append bs (replicate (n - length bs) false) in
    rw (e, bits_value-zeros (n - length bs)) (omega arith)

-- the top of an extension is the top of the bits
top_extended : (bs : List Bool) (k : ℕ) (t : Bool) → top_bit bs ≡ t → top_bit (bs ++ replicate k t) ≡ t
top_extended bs zero t e = ap top_bit (append-nil bs) ∙ e
top_extended bs (suc k) t e =
    let size : length (bs ++ replicate (suc k) t) ≡ length bs + suc k = length-append bs (replicate (suc k) t) ∙ ap (λ (m : ℕ). length bs + m) (length-replicate (suc k) t) in
    let last : length (bs ++ replicate (suc k) t) - 1 ≡ length bs + k = omega arith in
    ap (λ (m : ℕ). get_or (bs ++ replicate (suc k) t) m false) last
    ∙ get_or-append_right bs (replicate (suc k) t) (length bs) (length bs + k) false refl (omega arith)
    ∙ get_or-replicate (suc k) (length bs + k - length bs) t false (omega arith)

signed_false : (bs : List Bool) → top_bit bs ≡ false → signed_value bs ≡ pos (bits_value bs)
signed_false bs e = rw e refl

signed_true : (bs : List Bool) → top_bit bs ≡ true → signed_value bs ≡ pos (bits_value bs) -ℤ pos (2 ^ length bs)
signed_true bs e = rw e refl

ones_over : (v p q ones : ℕ) → ones + 1 ≡ q → pos (v + p * ones) -ℤ pos (p * q) ≡ pos v -ℤ pos p
ones_over v p q ones e =
    let m : p * q ≡ p * ones + p = ap (λ (k : ℕ). p * k) (sym e) ∙ omega arith in
    rw m (omega (arith, ints))

extended_by : (bs : List Bool) (k : ℕ) (t : Bool) → top_bit bs ≡ t → signed_value (bs ++ replicate k t) ≡ signed_value bs
extended_by bs k false e =
    signed_false (bs ++ replicate k false) (top_extended bs k false e)
    ∙ ap pos (bits_value-append bs (replicate k false) ∙ rw (bits_value-zeros k) (omega arith))
    ∙ sym (signed_false bs e)
extended_by bs k true e =
    let size : length (bs ++ replicate k true) ≡ length bs + k = length-append bs (replicate k true) ∙ ap (λ (m : ℕ). length bs + m) (length-replicate k true) in
    signed_true (bs ++ replicate k true) (top_extended bs k true e)
    ∙ ap (λ (m : ℕ). pos m -ℤ pos (2 ^ length (bs ++ replicate k true))) (bits_value-append bs (replicate k true))
    ∙ ap (λ (m : ℕ). pos (bits_value bs + 2 ^ length bs * bits_value (replicate k true)) -ℤ pos m) (ap (λ (m : ℕ). 2 ^ m) size ∙ pow-add 2 (length bs) k)
    ∙ ones_over (bits_value bs) (2 ^ length bs) (2 ^ k) (bits_value (replicate k true)) (bits_value-ones k)
    ∙ sym (signed_true bs e)

pub signed_value-extension : (bs : List Bool) (n : ℕ) → length bs ≤ n → signed_value (extension_of bs n true) ≡ signed_value bs
signed_value-extension bs n h = extended_by bs (n - length bs) (top_bit bs) refl

pub ruleset signed_laws = (int_bits-signed_value, bits_value-extension, signed_value-extension)
