-- What the functions of `BitsOf` give, from what the words in use stand for.
use Rattle.std.proofs.Common.{◌≡◌, ℕ, ◌+◌, ◌-◌, ◌*◌, ◌/◌, ◌%◌, ◌^◌, ◌<◌, ◌≤◌, List, [], ◌∷◌, ◌++◌, length, take, drop, map, replicate, get_or, Bool, not, refl, sym, ◌∙◌, ap, arith}
use Rattle.std.proofs.Math.Nat.{pow-le-pow_right}
use Rattle.std.specs.Prelude.{◌==◌, bit_and, bit_or, bit_xor, pos, ◌-ℤ◌, IsTrue, ◌↔◌, slice_get, Some}
use Rattle.std.proofs.lemmas.Nat.{pow_pos, mod_below, and_le_l, or_lt, xor_lt}
use Rattle.std.proofs.Math.Seq.{take-append_seam}
use Rattle.asl_bits.specs.Words.{words_value}
use Rattle.asl_bits.specs.Lists.{bits_value, bits_of, int_bits, both, and_bit, or_bit, xor_bit}
use Rattle.asl_bits.proofs.Lists.{bits_of_value, value_small, low_bits, and_bits, or_bits, xor_bits, cat_bits}
use Rattle.asl_bits.proofs.Values.{value_shown, not_is, width_is, difference_is, same_is, bit_is, sliced_is, below_cat}
use Rattle.asl_bits.proofs.Windows.{in_first, padded}

pub first_value : (w k : ℕ) (ws : List ℕ) (bs : List Bool) → bits_of w (words_value ws) ≡ bs → words_value ws < 2 ^ w → length bs ≤ 128 * k → words_value (take k ws) ≡ bits_value bs
first_value w k ws bs e h room =
    let l : w ≡ length bs = width_is w (words_value ws) bs e in
    let m : w ≤ 128 * k = omega arith in
    let p : 2 ^ w ≤ 2 ^ (128 * k) = pow-le-pow_right (omega arith) m in
    in_first ws k (omega arith) ∙ sym (value_shown w (words_value ws) bs e h)

-- v is what the words stand for that an operation made, with zeros behind
abbrev pub made : List ℕ → ℕ → ℕ → ℕ
made os n m = words_value (os ++ drop n (replicate m 0))

pub not_of : (w n m : ℕ) (bs : List Bool) (ws os : List ℕ) → w ≡ length bs → words_value ws ≡ bits_value bs → words_value os ≡ 2 ^ w - 1 - words_value ws → bits_of w (made os n m) ≡ map not bs
not_of w n m bs ws os l v e =
    not_is w (bits_value bs) (made os n m) bs _ (ap (λ (k : ℕ). bits_of k (bits_value bs)) l ∙ bits_of_value bs) (rw l (value_small bs))
    (padded os n m ∙ e ∙ ap (λ (k : ℕ). 2 ^ w - 1 - k) v) refl

pub not_fits : (w n m : ℕ) (os ws : List ℕ) → words_value os ≡ 2 ^ w - 1 - words_value ws → made os n m < 2 ^ w
not_fits w n m os ws e = omega (arith, padded os n m, pow_pos w)

-- the sum, and what is cut to its width
pub low_fits : (w n m v : ℕ) (os : List ℕ) → words_value os ≡ v % 2 ^ w → made os n m < 2 ^ w
low_fits w n m v os e = rw (padded os n m, e) (mod_below _ _ (pow_pos w))

bitwise_of : (f : ℕ → ℕ → ℕ) (g : Bool → Bool → Bool) → ((w m n : ℕ) → bits_of w (f m n) ≡ both g (bits_of w m) (bits_of w n)) → (w n m : ℕ) (xs ys : List Bool) (ls rs os : List ℕ) → w ≡ length xs → length xs ≡ length ys → words_value ls ≡ bits_value xs → words_value rs ≡ bits_value ys → words_value os ≡ f (words_value ls) (words_value rs) → bits_of w (made os n m) ≡ both g xs ys
bitwise_of f g law w n m xs ys ls rs os l s p q e =
    ap (bits_of w) (padded os n m ∙ e ∙ ap (λ (k : ℕ). f k (words_value rs)) p ∙ ap (f (bits_value xs)) q)
    ∙ law w (bits_value xs) (bits_value ys)
    ∙ ap (λ (k : ℕ). both g (bits_of k (bits_value xs)) (bits_of w (bits_value ys))) l
    ∙ ap (λ (zs : List Bool). both g zs (bits_of w (bits_value ys))) (bits_of_value xs)
    ∙ ap (λ (k : ℕ). both g xs (bits_of k (bits_value ys))) (l ∙ s)
    ∙ ap (both g xs) (bits_of_value ys)

pub and_of : (w n m : ℕ) (xs ys : List Bool) (ls rs os : List ℕ) → w ≡ length xs → length xs ≡ length ys → words_value ls ≡ bits_value xs → words_value rs ≡ bits_value ys → words_value os ≡ bit_and (words_value ls) (words_value rs) → bits_of w (made os n m) ≡ both and_bit xs ys
and_of = bitwise_of bit_and and_bit and_bits

pub or_of : (w n m : ℕ) (xs ys : List Bool) (ls rs os : List ℕ) → w ≡ length xs → length xs ≡ length ys → words_value ls ≡ bits_value xs → words_value rs ≡ bits_value ys → words_value os ≡ bit_or (words_value ls) (words_value rs) → bits_of w (made os n m) ≡ both or_bit xs ys
or_of = bitwise_of bit_or or_bit or_bits

pub xor_of : (w n m : ℕ) (xs ys : List Bool) (ls rs os : List ℕ) → w ≡ length xs → length xs ≡ length ys → words_value ls ≡ bits_value xs → words_value rs ≡ bits_value ys → words_value os ≡ bit_xor (words_value ls) (words_value rs) → bits_of w (made os n m) ≡ both xor_bit xs ys
xor_of = bitwise_of bit_xor xor_bit xor_bits

fits_in : (w : ℕ) (xs : List Bool) (ls : List ℕ) → w ≡ length xs → words_value ls ≡ bits_value xs → words_value ls < 2 ^ w
fits_in w xs ls l p = rw (p, l) (value_small xs)

pub and_fits : (w n m : ℕ) (xs ys : List Bool) (ls rs os : List ℕ) → w ≡ length xs → length xs ≡ length ys → words_value ls ≡ bits_value xs → words_value rs ≡ bits_value ys → words_value os ≡ bit_and (words_value ls) (words_value rs) → made os n m < 2 ^ w
and_fits w n m xs ys ls rs os l s p q e =
    let h : bit_and (words_value ls) (words_value rs) ≤ words_value ls = and_le_l _ _ in
    omega (arith, padded os n m, fits_in w xs ls l p)

pub or_fits : (w n m : ℕ) (xs ys : List Bool) (ls rs os : List ℕ) → w ≡ length xs → length xs ≡ length ys → words_value ls ≡ bits_value xs → words_value rs ≡ bits_value ys → words_value os ≡ bit_or (words_value ls) (words_value rs) → made os n m < 2 ^ w
or_fits w n m xs ys ls rs os l s p q e = rw (padded os n m, e) (or_lt w (words_value ls) (words_value rs) (fits_in w xs ls l p) (fits_in w ys rs (l ∙ s) q))

pub xor_fits : (w n m : ℕ) (xs ys : List Bool) (ls rs os : List ℕ) → w ≡ length xs → length xs ≡ length ys → words_value ls ≡ bits_value xs → words_value rs ≡ bits_value ys → words_value os ≡ bit_xor (words_value ls) (words_value rs) → made os n m < 2 ^ w
xor_fits w n m xs ys ls rs os l s p q e = rw (padded os n m, e) (xor_lt w (words_value ls) (words_value rs) (fits_in w xs ls l p) (fits_in w ys rs (l ∙ s) q))

pub sum_of : (w n m : ℕ) (xs ys : List Bool) (ls rs os : List ℕ) → w ≡ length xs → words_value ls ≡ bits_value xs → words_value rs ≡ bits_value ys → words_value os ≡ (words_value ls + words_value rs + 0) % 2 ^ w → bits_of w (made os n m) ≡ bits_of (length xs) (bits_value xs + bits_value ys)
sum_of w n m xs ys ls rs os l p q e =
    let s : words_value ls + words_value rs + 0 ≡ bits_value xs + bits_value ys = omega arith in
    ap (bits_of w) (padded os n m ∙ e ∙ ap (λ (k : ℕ). k % 2 ^ w) s) ∙ low_bits w (bits_value xs + bits_value ys)
    ∙ ap (λ (k : ℕ). bits_of k (bits_value xs + bits_value ys)) l

pub turned_first : (os : List ℕ) (n m : ℕ) → length os ≡ n → words_value (take n (os ++ drop n (replicate m 0))) ≡ words_value os
turned_first os n m l = ap words_value (ap (λ (k : ℕ). take k (os ++ drop n (replicate m 0))) (sym l) ∙ take-append_seam os (drop n (replicate m 0)))

pub difference_of : (w n m : ℕ) (xs ys : List Bool) (ls rs ts us os : List ℕ) → w ≡ length xs → length xs ≡ length ys → words_value ls ≡ bits_value xs → words_value rs ≡ bits_value ys → words_value ts ≡ 2 ^ w - 1 - words_value rs → words_value us ≡ words_value ts → words_value os ≡ (words_value ls + words_value us + 1) % 2 ^ w → bits_of w (made os n m) ≡ int_bits (length xs) (pos (bits_value xs) -ℤ pos (bits_value ys))
difference_of w n m xs ys ls rs ts us os l s p q t u e =
    difference_is w w (bits_value xs) (bits_value ys) (words_value us) (made os n m) xs ys _
    (ap (λ (k : ℕ). bits_of k (bits_value xs)) l ∙ bits_of_value xs)
    (ap (λ (k : ℕ). bits_of k (bits_value ys)) (l ∙ s) ∙ bits_of_value ys)
    s (rw l (value_small xs)) (rw (l ∙ s) (value_small ys))
    (u ∙ t ∙ ap (λ (k : ℕ). 2 ^ w - 1 - k) q)
    (padded os n m ∙ e ∙ ap (λ (k : ℕ). (k + words_value us + 1) % 2 ^ w) p) refl

pub same_of : (xs ys : List Bool) (ls rs : List ℕ) (b : Bool) → length xs ≡ length ys → words_value ls ≡ bits_value xs → words_value rs ≡ bits_value ys → IsTrue b ↔ (words_value ls ≡ words_value rs) → IsTrue b ↔ (xs ≡ ys)
same_of xs ys ls rs b s p q t =
    same_is (length xs) (length ys) (bits_value xs) (bits_value ys) xs ys b (bits_of_value xs) (bits_of_value ys) s (value_small xs) (value_small ys)
    (λ h. sym p ∙ t.0 h ∙ q, λ h. t.1 (p ∙ h ∙ sym q))

pub bit_of : (bs : List Bool) (ws : List ℕ) (v k : ℕ) → k < length bs → words_value ws ≡ bits_value bs → v ≡ words_value ws / 2 ^ k % 2 ^ 128 → slice_get bs k ≡ Some (v % 2 == 1)
bit_of bs ws v k h p e = bit_is (length bs) (bits_value bs) v k bs (bits_of_value bs) h (e ∙ ap (λ (n : ℕ). n / 2 ^ k % 2 ^ 128) p)

pub part_of : (k w n m : ℕ) (bs : List Bool) (ws os : List ℕ) → k + w ≤ length bs → words_value ws ≡ bits_value bs → words_value os ≡ words_value ws / 2 ^ k % 2 ^ w → bits_of w (made os n m) ≡ take w (drop k bs)
part_of k w n m bs ws os h p e =
    sliced_is (length bs) (bits_value bs) (made os n m) k w bs _ (bits_of_value bs) h (padded os n m ∙ e ∙ ap (λ (v : ℕ). v / 2 ^ k % 2 ^ w) p) refl

pub lowest_of : (v w n m : ℕ) (os : List ℕ) → words_value os ≡ words_value (v ∷ []) / 2 ^ 0 % 2 ^ w → bits_of w (made os n m) ≡ bits_of w v
unfolding words_value
lowest_of v w n m os e =
    let s : (v + 2 ^ 128 * 0) / 2 ^ 0 ≡ v = omega arith in
    ap (bits_of w) (padded os n m ∙ e ∙ ap (λ (k : ℕ). k % 2 ^ w) s) ∙ low_bits w v

stacked_small : (k w : ℕ) (low high : List Bool) (ls hs : List ℕ) → k ≡ length low → w ≡ k + length high → words_value ls ≡ bits_value low → words_value hs ≡ bits_value high → words_value hs * 2 ^ k + words_value ls < 2 ^ w
stacked_small k w low high ls hs l s p q =
    rw s (below_cat k (length high) (words_value hs) (words_value ls) (rw (p, l) (value_small low)) (rw q (value_small high)))

-- what `join` asks
pub low_small : (k : ℕ) (low : List Bool) (ls : List ℕ) → k ≡ length low → words_value ls ≡ bits_value low → words_value ls < 2 ^ k
low_small k low ls l p = rw (p, l) (value_small low)

pub join_room : (k w n : ℕ) (low high : List Bool) (ls hs : List ℕ) → k ≡ length low → w ≡ k + length high → words_value ls ≡ bits_value low → words_value hs ≡ bits_value high → w ≤ 128 * n → words_value hs * 2 ^ k + words_value ls < 2 ^ (128 * n)
join_room k w n low high ls hs l s p q h =
    let a : 2 ^ w ≤ 2 ^ (128 * n) = pow-le-pow_right (omega arith) h in omega (arith, stacked_small k w low high ls hs l s p q)

pub join_fits : (k w n m : ℕ) (low high : List Bool) (ls hs os : List ℕ) → k ≡ length low → w ≡ k + length high → words_value ls ≡ bits_value low → words_value hs ≡ bits_value high → words_value os ≡ words_value hs * 2 ^ k + words_value ls → made os n m < 2 ^ w
join_fits k w n m low high ls hs os l s p q e = rw (padded os n m, e) (stacked_small k w low high ls hs l s p q)

pub join_of : (k w n m : ℕ) (low high : List Bool) (ls hs os : List ℕ) → k ≡ length low → w ≡ k + length high → words_value ls ≡ bits_value low → words_value hs ≡ bits_value high → words_value os ≡ words_value hs * 2 ^ k + words_value ls → bits_of w (made os n m) ≡ low ++ high
join_of k w n m low high ls hs os l s p q e =
    ap (bits_of w) (padded os n m ∙ e ∙ ap (λ (v : ℕ). v * 2 ^ k + words_value ls) q ∙ ap (λ (v : ℕ). bits_value high * 2 ^ k + v) p)
    ∙ ap (λ (v : ℕ). bits_of v (bits_value high * 2 ^ k + bits_value low)) s
    ∙ cat_bits k (length high) (bits_value low) (bits_value high) (rw l (value_small low))
    ∙ ap (λ (v : ℕ). bits_of v (bits_value low) ++ bits_of (length high) (bits_value high)) l
    ∙ ap (λ (zs : List Bool). zs ++ bits_of (length high) (bits_value high)) (bits_of_value low)
    ∙ ap (λ (zs : List Bool). low ++ zs) (bits_of_value high)

pub single_word : (v : ℕ) → words_value (v ∷ []) ≡ v
unfolding words_value
single_word v = omega arith

pub one_word : (w v : ℕ) (ws : List ℕ) (bs : List Bool) → length ws ≡ 1 → bits_of w (words_value ws) ≡ bs → words_value ws < 2 ^ w → v ≡ get_or ws 0 0 → v ≡ bits_value bs
unfolding words_value
one_word w v [] bs l e h i = absurd (omega arith)
one_word w v (x ∷ []) bs l e h i = i ∙ sym (single_word x) ∙ sym (value_shown w (words_value (x ∷ [])) bs e h)
one_word w v (x ∷ y ∷ ws) bs l e h i = absurd (omega arith)

pub ruleset not_facts = (not_of, not_fits, low_small)

pub ruleset and_facts = (and_of, and_fits)

pub ruleset or_facts = (or_of, or_fits)

pub ruleset xor_facts = (xor_of, xor_fits)

pub ruleset sum_facts = (sum_of, low_fits)

pub ruleset sub_facts = (low_small, low_fits)

pub ruleset part_facts = (part_of, low_fits)

pub ruleset lowest_facts = (lowest_of, low_fits)

pub ruleset join_facts = (low_small, join_room, join_fits, join_of)
