-- The lowest digits of a mask as a number, and masks that these tell apart.
use Rattle.std.proofs.Common.{◌≡◌, ℕ, zero, suc, ◌<◌, ◌≤◌, ◌^◌, List, [], ◌∷◌, length, take, drop, Bool, true, false, replicate, refl, sym, ◌∙◌, ap, subst, arith}
use Rattle.std.specs.Prelude.{None, not, bit_and, bit_xor}
use Rattle.std.specs.Int.Bits.{and_lt}
use Rattle.std.proofs.lemmas.Nat.{xor_lt}
use Rattle.asl_bits.specs.Lists.{bits_value, bits_of, both, and_bit, xor_bit}
use Rattle.asl_bits.proofs.Lists.{value_below, bits_of_value, value_small, and_bits, xor_bits}
use Rattle.asl_mask.specs.Covers.{Digits}
use Rattle.asl_mask.specs.Least.{overlap_of}
use Rattle.asl_table.specs.Pairs.{fixed_of, digits_of, low_number}
use Rattle.asl_table.proofs.Overlaps.{apart, overlap_apart, apart_length, length-fixed, length-digits}

-- ---- the number of the lowest bits

take_all : (n : ℕ) (bs : List Bool) → length bs ≤ n → take n bs ≡ bs
take_all zero [] h = refl
take_all (suc n) [] h = refl
take_all zero (b ∷ bs) h = absurd (omega (arith, h))
take_all (suc n) (b ∷ bs) h = ap (λ (xs : List Bool). b ∷ xs) (take_all n bs (omega (arith, h)))

pub number_short : (bs part : List Bool) (k v : ℕ) → k ≡ length bs → k < 128 → part ≡ take k (drop 0 bs) → v ≡ bits_value part →
    v ≡ low_number bs
number_short bs part k v e h p is =
    is ∙ ap bits_value (p ∙ take_all k bs (omega (arith, e)) ∙ sym (take_all 128 bs (omega (arith, e, h))))

pub number_long : (bs part : List Bool) (v : ℕ) → part ≡ take 128 (drop 0 bs) → v ≡ bits_value part → v ≡ low_number bs
number_long bs part v p is = is ∙ ap bits_value p

-- ---- two masks

both_take : (f : Bool → Bool → Bool) (n : ℕ) (xs ys : List Bool) → length xs ≡ length ys →
    both f (take n xs) (take n ys) ≡ take n (both f xs ys)
unfolding both
both_take f zero xs ys h = refl
both_take f (suc n) [] ys h = refl
both_take f (suc n) (x ∷ xs) [] h = absurd (omega (arith, h))
both_take f (suc n) (x ∷ xs) (y ∷ ys) h = ap (λ (bs : List Bool). f x y ∷ bs) (both_take f n xs ys (omega (arith, h)))

value_zeros : (n k : ℕ) → bits_value (take n (replicate k false)) ≡ 0
unfolding bits_value
value_zeros zero k = refl
value_zeros (suc n) zero = refl
value_zeros (suc n) (suc k) = omega (arith, value_zeros n k)

length_same_take : (n : ℕ) (xs ys : List Bool) → length xs ≡ length ys → length (take n xs) ≡ length (take n ys)
length_same_take zero xs ys h = refl
length_same_take (suc n) [] [] h = refl
length_same_take (suc n) [] (y ∷ ys) h = absurd (omega (arith, h))
length_same_take (suc n) (x ∷ xs) [] h = absurd (omega (arith, h))
length_same_take (suc n) (x ∷ xs) (y ∷ ys) h = omega (arith, length_same_take n xs ys (omega (arith, h)))

-- a number of so many bits, as bits
shown : (k : ℕ) (bs : List Bool) → length bs ≡ k → bits_of k (bits_value bs) ≡ bs
shown k bs h = subst (λ (n : ℕ). bits_of n (bits_value bs) ≡ bs) h (bits_of_value bs)

small : (k : ℕ) (bs : List Bool) → length bs ≡ k → bits_value bs < 2 ^ k
small k bs h = subst (λ (n : ℕ). bits_value bs < 2 ^ n) h (value_small bs)

word_shown : (k : ℕ) (da db fa fb : List Bool) → length da ≡ k → length db ≡ k → length fa ≡ k → length fb ≡ k →
    bit_and (bit_xor (bits_value da) (bits_value db)) (bit_and (bits_value fa) (bits_value fb)) ≡ bits_value (both and_bit (both xor_bit da db) (both and_bit fa fb))
word_shown k da db fa fb a b c d =
    let fixed_small : bit_and (bits_value fa) (bits_value fb) < 2 ^ k = and_lt k (bits_value fa) (bits_value fb) (small k fa c) (small k fb d) in
    let digits_small : bit_xor (bits_value da) (bits_value db) < 2 ^ k = xor_lt k (bits_value da) (bits_value db) (small k da a) (small k db b) in
    let word = bit_and (bit_xor (bits_value da) (bits_value db)) (bit_and (bits_value fa) (bits_value fb)) in
    sym (value_below k word (and_lt k (bit_xor (bits_value da) (bits_value db)) (bit_and (bits_value fa) (bits_value fb)) digits_small fixed_small))
    ∙ ap bits_value (and_bits k (bit_xor (bits_value da) (bits_value db)) (bit_and (bits_value fa) (bits_value fb)))
    ∙ ap (λ (bs : List Bool). bits_value (both and_bit bs (bits_of k (bit_and (bits_value fa) (bits_value fb))))) (xor_bits k (bits_value da) (bits_value db))
    ∙ ap (λ (bs : List Bool). bits_value (both and_bit (both xor_bit (bits_of k (bits_value da)) (bits_of k (bits_value db))) bs)) (and_bits k (bits_value fa) (bits_value fb))
    ∙ rw (shown k da a, shown k db b, shown k fa c, shown k fb d) refl

apart_low : (m n : Digits) → length m ≡ length n →
    both and_bit (both xor_bit (take 128 (digits_of m)) (take 128 (digits_of n))) (both and_bit (take 128 (fixed_of m)) (take 128 (fixed_of n))) ≡ take 128 (apart m n)
apart_low m n h = rw (
  both_take xor_bit 128 (digits_of m) (digits_of n) (omega (arith, h, length-digits m, length-digits n)),
  both_take and_bit 128 (fixed_of m) (fixed_of n) (omega (arith, h, length-fixed m, length-fixed n)),
) (both_take and_bit 128 (both xor_bit (digits_of m) (digits_of n)) (both and_bit (fixed_of m) (fixed_of n)) (apart_length m n h))

-- a place among the lowest where both are fixed and differ: no word
pub low_apart : (m n : Digits) (fa fb da db : ℕ) → length m ≡ length n → fa ≡ low_number (fixed_of m) → fb ≡ low_number (fixed_of n) →
    da ≡ low_number (digits_of m) → db ≡ low_number (digits_of n) →
    (bit_and (bit_xor da db) (bit_and fa fb) ≡ 0 → ⊥) → overlap_of (length m) m n ≡ None
low_apart m n fa fb da db l e f g h some =
    overlap_apart m n l (λ none. some (
    rw (e, f, g, h) refl
    ∙ word_shown (length (take 128 (fixed_of m))) (take 128 (digits_of m)) (take 128 (digits_of n)) (take 128 (fixed_of m)) (take 128 (fixed_of n))
    (length_same_take 128 (digits_of m) (fixed_of m) (omega (arith, length-digits m, length-fixed m)))
    (length_same_take 128 (digits_of n) (fixed_of m) (omega (arith, l, length-digits n, length-fixed m)))
    refl
    (length_same_take 128 (fixed_of n) (fixed_of m) (omega (arith, l, length-fixed n, length-fixed m)))
    ∙ ap bits_value (apart_low m n l) ∙ ap (λ (bs : List Bool). bits_value (take 128 bs)) none ∙ value_zeros 128 (length m)))

-- ---- the test of the code

pub not_true : (b : Bool) → not b ≡ true → b ≡ false
not_true true h = absurd cc
not_true false h = refl

pub not_false : (b : Bool) → b ≡ false → not b ≡ false → ⊥
not_false true h e = cc
not_false false h e = cc
