-- Words with others in place of some of their bits.
use Rattle.std.proofs.Common.{◌≡◌, ℕ, ◌+◌, ◌-◌, ◌*◌, ◌/◌, ◌%◌, ◌^◌, ◌<◌, ◌≤◌, List, Bool, ◌++◌, length, take, drop, get_or, refl, sym, ◌∙◌, ap, subst, arith}
use Rattle.std.proofs.Math.Nat.{pow-le-pow_right, mod-eq_of_lt, div-eq_of_lt, div-mul-le_self}
use Rattle.std.proofs.lemmas.Nat.{pow_pos, shr-shr, field_of, or_shifted, or_shr, or_mod, mod_below}
use Rattle.std.specs.Prelude.{bit_or}
use Rattle.asl_bits.specs.Words.{words_value}
use Rattle.asl_bits.specs.Lists.{bits_value, bits_of, with_slice}
use Rattle.asl_bits.proofs.Lists.{bits_of_value, value_small, take_bits, drop_bits, cat_bits, low_bits}
use Rattle.asl_bits.proofs.Values.{below_cat}
use Rattle.asl_bits.proofs.Windows.{by_le, word_is, words_lt, built_exactly, kept_digit, raised_far, raised_up, raised_past, raised_mod, padded}
use Rattle.asl_bits.proofs.InUse.{made}

-- ---- a word

pub whole_kept : (w a b : ℕ) → a ≤ b → w ≡ w / 2 ^ (a - b) * 2 ^ (a - b)
whole_kept w a b h = let e : a - b ≡ 0 = omega arith in rw e (omega arith)

pub low_cleared : (w d : ℕ) → w < 2 ^ 128 → w / 2 ^ d * 2 ^ d % 2 ^ 128 ≡ w / 2 ^ d * 2 ^ d
low_cleared w d h = mod-eq_of_lt (let p : w / 2 ^ d * 2 ^ d ≤ w = div-mul-le_self w (2 ^ d) in omega arith)

pub all_cleared : (w d : ℕ) → w < 2 ^ 128 → 128 ≤ d → 0 ≡ w / 2 ^ d * 2 ^ d
all_cleared w d h k =
    let p : 2 ^ 128 ≤ 2 ^ d = pow-le-pow_right (omega arith) k in
    let e : w / 2 ^ d ≡ 0 = div-eq_of_lt (omega arith) in rw e (omega arith)

pub ruleset cleared_facts = (whole_kept, low_cleared, all_cleared)

cleared_near : (x d : ℕ) → d ≤ 128 → x / 2 ^ d * 2 ^ d % 2 ^ 128 ≡ x % 2 ^ 128 / 2 ^ d * 2 ^ d
cleared_near x d h =
    let e : (128 - d) + d ≡ 128 = omega arith in
    ap (λ (m : ℕ). x / 2 ^ d * 2 ^ d % 2 ^ m) (sym e) ∙ raised_mod (x / 2 ^ d) (128 - d) d
    ∙ ap (λ (m : ℕ). m * 2 ^ d) (sym (field_of x (128 - d) d)) ∙ ap (λ (m : ℕ). x % 2 ^ m / 2 ^ d * 2 ^ d) e

cleared_digit : (n e p : ℕ) → n / 2 ^ e * 2 ^ e / 2 ^ p % 2 ^ 128 ≡ n / 2 ^ p % 2 ^ 128 / 2 ^ (e - p) * 2 ^ (e - p)
cleared_digit n e p =
    by_le e p
    (λ h. let s : e + (p - e) ≡ p = omega arith in
    ap (λ (m : ℕ). m % 2 ^ 128) (raised_far (n / 2 ^ e) e p h ∙ shr-shr n e (p - e) ∙ ap (λ (m : ℕ). n / 2 ^ m) s)
    ∙ whole_kept (n / 2 ^ p % 2 ^ 128) e p h)
    (λ h. by_le (e - p) 128
    (λ l. let s : p + (e - p) ≡ e = omega arith in
    ap (λ (m : ℕ). m % 2 ^ 128) (raised_up (n / 2 ^ e) e p h)
    ∙ ap (λ (m : ℕ). m * 2 ^ (e - p) % 2 ^ 128) (ap (λ (m : ℕ). n / 2 ^ m) (sym s) ∙ sym (shr-shr n p (e - p)))
    ∙ cleared_near (n / 2 ^ p) (e - p) l)
    (λ l. raised_past (n / 2 ^ e) e p (omega arith) ∙ all_cleared (n / 2 ^ p % 2 ^ 128) (e - p) (mod_below _ _ (pow_pos 128)) l))

-- ---- all words

put_small : (v p by end room : ℕ) → by ≤ end → end ≤ room → p < 2 ^ (end - by) → v < 2 ^ room → v / 2 ^ end * 2 ^ end + (p * 2 ^ by + v % 2 ^ by) < 2 ^ room
put_small v p by end room h k q r =
    let s : by + (end - by) ≡ end = omega arith in
    let t : end + (room - end) ≡ room = omega arith in
    let x : p * 2 ^ by + v % 2 ^ by < 2 ^ end = subst (λ (m : ℕ). p * 2 ^ by + v % 2 ^ by < 2 ^ m) s (below_cat by (end - by) p (v % 2 ^ by) (mod_below _ _ (pow_pos by)) q) in
    let y : v / 2 ^ end < 2 ^ (room - end) = top v end room k r in
    subst (λ (m : ℕ). v / 2 ^ end * 2 ^ end + (p * 2 ^ by + v % 2 ^ by) < 2 ^ m) t (below_cat end (room - end) (v / 2 ^ end) (p * 2 ^ by + v % 2 ^ by) x y)
  where
    top : (v e r : ℕ) → e ≤ r → v < 2 ^ r → v / 2 ^ e < 2 ^ (r - e)
    top v e r h k =
        let s : (r - e) + e ≡ r = omega arith in
        let f : v % 2 ^ ((r - e) + e) / 2 ^ e ≡ v / 2 ^ e % 2 ^ (r - e) = field_of v (r - e) e in
        let g : v % 2 ^ ((r - e) + e) ≡ v = ap (λ (m : ℕ). v % 2 ^ m) s ∙ mod-eq_of_lt k in
        let i : v / 2 ^ e ≡ v / 2 ^ e % 2 ^ (r - e) = ap (λ (m : ℕ). m / 2 ^ e) (sym g) ∙ f in
        rw i (mod_below _ _ (pow_pos (r - e)))

pub put_done : (vs ps ys : List ℕ) (by end : ℕ) → ((k : ℕ) → get_or vs k 0 < 2 ^ 128) → length ys ≡ length vs → by ≤ end → end ≤ 128 * length ys → words_value ps < 2 ^ (end - by) → ((k : ℕ) → k < length ys → get_or ys k 0 ≡ bit_or (get_or vs k 0 / 2 ^ (end - 128 * k) * 2 ^ (end - 128 * k)) (bit_or (words_value ps * 2 ^ by / 2 ^ (128 * k) % 2 ^ 128) (get_or vs k 0 % 2 ^ (by - 128 * k)))) → words_value ys ≡ words_value vs / 2 ^ end * 2 ^ end + (words_value ps * 2 ^ by + words_value vs % 2 ^ by)
put_done vs ps ys by end small same order room fits h =
    let v = words_value vs in
    let p = words_value ps in
    let s : by + (end - by) ≡ end = omega arith in
    let x : p * 2 ^ by + v % 2 ^ by < 2 ^ end = subst (λ (m : ℕ). p * 2 ^ by + v % 2 ^ by < 2 ^ m) s (below_cat by (end - by) p (v % 2 ^ by) (mod_below _ _ (pow_pos by)) fits) in
    let low : bit_or (p * 2 ^ by) (v % 2 ^ by) ≡ p * 2 ^ by + v % 2 ^ by = or_shifted p by (v % 2 ^ by) (mod_below _ _ (pow_pos by)) in
    let all : bit_or (v / 2 ^ end * 2 ^ end) (bit_or (p * 2 ^ by) (v % 2 ^ by)) ≡ v / 2 ^ end * 2 ^ end + (p * 2 ^ by + v % 2 ^ by) =
    ap (bit_or (v / 2 ^ end * 2 ^ end)) low ∙ or_shifted (v / 2 ^ end) end (p * 2 ^ by + v % 2 ^ by) x in
    let below : v < 2 ^ (128 * length ys) = rw same (words_lt vs small) in
    built_exactly ys (bit_or (v / 2 ^ end * 2 ^ end) (bit_or (p * 2 ^ by) (v % 2 ^ by)))
    (λ k l. h k l
    ∙ ap (λ (w : ℕ). bit_or (w / 2 ^ (end - 128 * k) * 2 ^ (end - 128 * k)) (bit_or (p * 2 ^ by / 2 ^ (128 * k) % 2 ^ 128) (w % 2 ^ (by - 128 * k)))) (word_is vs small k)
    ∙ ap (λ (w : ℕ). bit_or w (bit_or (p * 2 ^ by / 2 ^ (128 * k) % 2 ^ 128) (v / 2 ^ (128 * k) % 2 ^ 128 % 2 ^ (by - 128 * k)))) (sym (cleared_digit v end (128 * k)))
    ∙ ap (λ (w : ℕ). bit_or (v / 2 ^ end * 2 ^ end / 2 ^ (128 * k) % 2 ^ 128) (bit_or (p * 2 ^ by / 2 ^ (128 * k) % 2 ^ 128) w)) (sym (kept_digit v by (128 * k)))
    ∙ sym (three (v / 2 ^ end * 2 ^ end) (p * 2 ^ by) (v % 2 ^ by) (128 * k)))
    (rw all (put_small v p by end (128 * length ys) order room fits below)) ∙ all
  where
    three : (a b c p : ℕ) → bit_or a (bit_or b c) / 2 ^ p % 2 ^ 128 ≡ bit_or (a / 2 ^ p % 2 ^ 128) (bit_or (b / 2 ^ p % 2 ^ 128) (c / 2 ^ p % 2 ^ 128))
    three a b c p = rw (or_shr, or_mod, or_shr, or_mod) refl

-- ---- the bits

put_bits : (k m w v p : ℕ) (bs part : List Bool) → bits_of w v ≡ bs → bits_of m p ≡ part → w ≡ length bs → m ≡ length part → k + m ≤ w → p < 2 ^ m → bits_of w (v / 2 ^ (k + m) * 2 ^ (k + m) + (p * 2 ^ k + v % 2 ^ k)) ≡ with_slice bs k part
put_bits k m w v p bs part e f l n h small =
    let s : (k + m) + (w - (k + m)) ≡ w = omega arith in
    let x : p * 2 ^ k + v % 2 ^ k < 2 ^ (k + m) = below_cat k m p (v % 2 ^ k) (mod_below _ _ (pow_pos k)) small in
    let low : bits_of (k + m) (p * 2 ^ k + v % 2 ^ k) ≡ take k bs ++ part =
    cat_bits k m (v % 2 ^ k) p (mod_below _ _ (pow_pos k))
    ∙ ap (λ (xs : List Bool). xs ++ bits_of m p) (low_bits k v ∙ sym (take_bits k w v (omega arith)) ∙ ap (take k) e)
    ∙ ap (λ (xs : List Bool). take k bs ++ xs) f in
    let high : bits_of (w - (k + m)) (v / 2 ^ (k + m)) ≡ drop (k + length part) bs =
    sym (drop_bits (k + m) w v h) ∙ ap (drop (k + m)) e ∙ ap (λ (j : ℕ). drop (k + j) bs) n in
    ap (λ (j : ℕ). bits_of j (v / 2 ^ (k + m) * 2 ^ (k + m) + (p * 2 ^ k + v % 2 ^ k))) (sym s)
    ∙ cat_bits (k + m) (w - (k + m)) (p * 2 ^ k + v % 2 ^ k) (v / 2 ^ (k + m)) x
    ∙ ap (λ (xs : List Bool). xs ++ bits_of (w - (k + m)) (v / 2 ^ (k + m))) low
    ∙ ap (λ (xs : List Bool). (take k bs ++ part) ++ xs) high

pub put_of : (k m w n c : ℕ) (bs part : List Bool) (ws ps os : List ℕ) → w ≡ length bs → m ≡ length part → k + length part ≤ length bs → words_value ws ≡ bits_value bs → words_value ps ≡ bits_value part → words_value os ≡ words_value ws / 2 ^ (k + m) * 2 ^ (k + m) + (words_value ps * 2 ^ k + words_value ws % 2 ^ k) → bits_of w (made os n c) ≡ with_slice bs k part
put_of k m w n c bs part ws ps os l j h p q e =
    ap (bits_of w) (padded os n c ∙ e)
    ∙ put_bits k m w (words_value ws) (words_value ps) bs part
    (ap (bits_of w) p ∙ ap (λ (i : ℕ). bits_of i (bits_value bs)) l ∙ bits_of_value bs)
    (ap (bits_of m) q ∙ ap (λ (i : ℕ). bits_of i (bits_value part)) j ∙ bits_of_value part)
    l j (omega arith) (rw (q, j) (value_small part))

pub put_fits : (k m w n c : ℕ) (bs part : List Bool) (ws ps os : List ℕ) → w ≡ length bs → m ≡ length part → k + length part ≤ length bs → words_value ws ≡ bits_value bs → words_value ps ≡ bits_value part → words_value os ≡ words_value ws / 2 ^ (k + m) * 2 ^ (k + m) + (words_value ps * 2 ^ k + words_value ws % 2 ^ k) → made os n c < 2 ^ w
put_fits k m w n c bs part ws ps os l j h p q e =
    rw (padded os n c, e)
    (put_small (words_value ws) (words_value ps) k (k + m) w (omega arith) (omega arith)
    (let s : k + m - k ≡ m = omega arith in rw (s, q, j) (value_small part)) (rw (p, l) (value_small bs)))

pub part_small : (k m : ℕ) (part : List Bool) (ps : List ℕ) → m ≡ length part → words_value ps ≡ bits_value part → words_value ps < 2 ^ (k + m - k)
part_small k m part ps j q = let s : k + m - k ≡ m = omega arith in rw (s, q, j) (value_small part)

pub ruleset put_facts = (put_of, put_fits, part_small)
