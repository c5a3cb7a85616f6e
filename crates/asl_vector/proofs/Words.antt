-- Bits that stand in one word.
use Rattle.std.proofs.Common.{◌≡◌, ℕ, ◌^◌, ◌<◌, List, [], ◌∷◌, Bool, length, take, drop, ◌+◌, ◌*◌, ◌/◌, ◌%◌, refl, ◌∙◌, ap, arith}
use Rattle.std.proofs.Math.Seq.{take-length}
use Rattle.asl_bits.specs.Lists.{bits_value, bits_of, both}
use Rattle.asl_bits.proofs.Lists.{bits_of_value, value_small, length-bits_of}

pub same_bits : (w n : ℕ) (bs : List Bool) → w ≡ length bs → n ≡ bits_value bs → bits_of w n ≡ bs
same_bits w n bs l e = ap (bits_of w) e ∙ ap (λ (k : ℕ). bits_of k (bits_value bs)) l ∙ bits_of_value bs

pub in_word : (w n : ℕ) (bs : List Bool) → w ≡ length bs → n ≡ bits_value bs → n < 2 ^ w
in_word w n bs l e = rw (e, l) (value_small bs)

pub same_halves : (w n : ℕ) (bs : List Bool) → w ≡ length bs → n ≡ bits_value bs → bits_of w (n % 2 ^ 64 + 2 ^ 64 * (n / 2 ^ 64)) ≡ bs
same_halves w n bs l e =
    let h : n % 2 ^ 64 + 2 ^ 64 * (n / 2 ^ 64) ≡ n = omega arith in ap (bits_of w) h ∙ same_bits w n bs l e

pub halves_fit : (w n : ℕ) (bs : List Bool) → w ≡ length bs → n ≡ bits_value bs → n % 2 ^ 64 + 2 ^ 64 * (n / 2 ^ 64) < 2 ^ w
halves_fit w n bs l e = let k = in_word w n bs l e in omega arith

pub ruleset halves = (same_halves, halves_fit)

pub whole : (bs rs : List Bool) (n : ℕ) → n ≡ length bs → rs ≡ take n (drop 0 bs) → rs ≡ bs
whole bs rs n l e = e ∙ ap (λ (k : ℕ). take k bs) l ∙ take-length bs

-- ---- what stays wide

length-both : (f : Bool → Bool → Bool) (xs ys : List Bool) → length xs ≡ length ys → length (both f xs ys) ≡ length xs
unfolding both
length-both f [] ys e = refl
length-both f (x ∷ xs) [] e = absurd (omega arith)
length-both f (x ∷ xs) (y ∷ ys) e = omega (arith, length-both f xs ys (omega arith))

pub wide_both : (f : Bool → Bool → Bool) (rs xs ys : List Bool) → rs ≡ both f xs ys → length xs ≡ length ys → 128 < length xs → 128 < length rs
wide_both f rs xs ys e s h = omega (arith, ap length e, length-both f xs ys s)

pub wide_bits : (rs : List Bool) (w n : ℕ) → rs ≡ bits_of w n → 128 < w → 128 < length rs
wide_bits rs w n e h = omega (arith, ap length e, length-bits_of w n)

pub ruleset wide_facts = (wide_both, wide_bits)
