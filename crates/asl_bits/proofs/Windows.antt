-- Lists of words and the numbers that they stand for, in the order of src/words.rt: the words of a number, a window of 128
-- bits, shifts, the lowest bits, the operations bit by bit, the sum, and the number that is one word.
use Rattle.std.proofs.Common.{◌≡◌, ◌≢◌, ℕ, zero, suc, ◌+◌, ◌-◌, ◌*◌, ◌/◌, ◌%◌, ◌^◌, ◌<◌, ◌≤◌, List, [], ◌∷◌, ◌++◌, length, take, drop, replicate, get_or, set, get_or-set_other, get_or-set_same, below_more, Bool, refl, sym, ◌∙◌, ap, subst, arith}
use Rattle.std.proofs.Math.Nat.{pow-le-pow_right, div-one, mod-one, mul_assoc, mul-mod_left, add_comm, mod-eq_of_lt, div-eq_of_lt, add-mul-div_right, mod-le, add-mul-mod_self_right}
use Rattle.std.proofs.lemmas.Bool.{cases_lt}
use mathlib.Core.Logic.{inl, inr, ◌↔◌}
use Rattle.std.specs.Prelude.{IsTrue}
use Rattle.std.specs.Str.{bytes_eq}
use lib.Pointwise.{bytes_decides}
use Rattle.std.proofs.Math.Pow.{not_mod, mod-mod-pow}
use Rattle.std.proofs.lemmas.Nat.{pow_pos, or_comm, mul-mod_first, pow-add, shr-shr, mod-pow-add, field_of, or_shifted, or_lt, xor_lt, and_le_l, div-add-mod', shl-shr, and_shr, or_shr, xor_shr, and_mod, or_mod, xor_mod, and_mask, one_shl, mod_below}
use Rattle.std.specs.Prelude.{bit_and, bit_or, bit_xor, slice_index}
use Rattle.std.specs.Int.{from_bool}
use Rattle.asl_bits.specs.Words.{words_value}

-- the word k of n
abbrev pub word_of : ℕ → ℕ → ℕ
word_of n k = n / 2 ^ (128 * k) % 2 ^ 128

-- the words below i of n
abbrev pub Shows : ℕ → ℕ → List ℕ → Type 0
Shows n i xs = (k : ℕ) → k < i → get_or xs k 0 ≡ word_of n k

pub by_le : {P : Type 0} (a b : ℕ) → (a ≤ b → P) → (b ≤ a → P) → P
by_le a b f g = elim (cases_lt a b) [ inl h ↦ f (omega arith) | inr h ↦ g h ]

later : (n k : ℕ) → n / 2 ^ (128 * suc k) ≡ n / 2 ^ 128 / 2 ^ (128 * k)
later n k = let e : 128 * suc k ≡ 128 + 128 * k = omega arith in rw e (sym (shr-shr n 128 (128 * k)))

pub built : (xs : List ℕ) (n : ℕ) → Shows n (length xs) xs → words_value xs ≡ n % 2 ^ (128 * length xs)
unfolding words_value
built [] n h = omega arith
built (x ∷ xs) n h =
    let e : 128 * suc (length xs) ≡ 128 * length xs + 128 = omega arith in
    let ih : words_value xs ≡ (n / 2 ^ 128) % 2 ^ (128 * length xs) =
    built xs (n / 2 ^ 128) (λ k l. h (suc k) (omega arith) ∙ ap (λ (m : ℕ). m % 2 ^ 128) (later n k)) in
    let here : x ≡ n % 2 ^ 128 = omega (arith, h 0 (omega arith)) in
    rw (e, mod-pow-add n (128 * length xs) 128) (omega (arith, ih, here))

pub word_is : (xs : List ℕ) → ((k : ℕ) → get_or xs k 0 < 2 ^ 128) → (k : ℕ) → get_or xs k 0 ≡ word_of (words_value xs) k
unfolding words_value
word_is [] h k = omega arith
word_is (x ∷ xs) h zero = omega (arith, h 0)
word_is (x ∷ xs) h (suc k) =
    let e : (x + 2 ^ 128 * words_value xs) / 2 ^ 128 ≡ words_value xs = omega (arith, h 0) in
    rw (later (x + 2 ^ 128 * words_value xs) k, e) (word_is xs (λ i. h (suc i)) k)

pub words_lt : (xs : List ℕ) → ((k : ℕ) → get_or xs k 0 < 2 ^ 128) → words_value xs < 2 ^ (128 * length xs)
unfolding words_value
words_lt [] h = omega arith
words_lt (x ∷ xs) h =
    let e : 128 * suc (length xs) ≡ 128 + 128 * length xs = omega arith in
    rw (e, pow-add 2 128 (128 * length xs)) (omega (arith, h 0, words_lt xs (λ i. h (suc i))))

pub built_exactly : (xs : List ℕ) (n : ℕ) → Shows n (length xs) xs → n < 2 ^ (128 * length xs) → words_value xs ≡ n
built_exactly xs n h small = built xs n h ∙ mod-eq_of_lt small

-- ---- windows

pub raised_mod : (a r s : ℕ) → a * 2 ^ s % 2 ^ (r + s) ≡ (a % 2 ^ r) * 2 ^ s
raised_mod a r s = rw (mod-pow-add (a * 2 ^ s) r s, shl-shr a s, mul-mod_left a (2 ^ s)) (omega arith)

shorter : (y r s : ℕ) → y % 2 ^ (r + s) % 2 ^ r ≡ y % 2 ^ r
shorter y r s = rw (add_comm r s) (mod-mod-pow y s r)

joined : (x r s : ℕ) → bit_or (x % 2 ^ (r + s) / 2 ^ r) (x / 2 ^ (r + s) % 2 ^ (r + s) * 2 ^ s % 2 ^ (r + s)) ≡ x / 2 ^ r % 2 ^ (r + s)
joined x r s =
    let y = x / 2 ^ (r + s) in
    let low : x % 2 ^ (r + s) / 2 ^ r ≡ x / 2 ^ r % 2 ^ s = rw (add_comm r s) (field_of x s r) in
    let high : y % 2 ^ (r + s) * 2 ^ s % 2 ^ (r + s) ≡ y % 2 ^ r * 2 ^ s =
    raised_mod (y % 2 ^ (r + s)) r s ∙ ap (λ (m : ℕ). m * 2 ^ s) (shorter y r s) in
    let all : x / 2 ^ r % 2 ^ (r + s) ≡ y % 2 ^ r * 2 ^ s + x / 2 ^ r % 2 ^ s =
    mod-pow-add (x / 2 ^ r) r s ∙ ap (λ (m : ℕ). m % 2 ^ r * 2 ^ s + x / 2 ^ r % 2 ^ s) (shr-shr x r s) in
    ap (λ (m : ℕ). bit_or m (y % 2 ^ (r + s) * 2 ^ s % 2 ^ (r + s))) low
    ∙ ap (λ (m : ℕ). bit_or (x / 2 ^ r % 2 ^ s) m) high
    ∙ or_comm (x / 2 ^ r % 2 ^ s) (y % 2 ^ r * 2 ^ s)
    ∙ or_shifted (y % 2 ^ r) s (x / 2 ^ r % 2 ^ s) (mod_below _ _ (pow_pos s))
    ∙ sym all

pub window_aligned : (xs : List ℕ) (p w : ℕ) → ((k : ℕ) → get_or xs k 0 < 2 ^ 128) → p % 128 ≡ 0 → w ≡ get_or xs (p / 128) 0 → w ≡ words_value xs / 2 ^ p % 2 ^ 128
window_aligned xs p w h e is =
    let place : 128 * (p / 128) ≡ p = omega arith in
    is ∙ word_is xs h (p / 128) ∙ ap (λ (q : ℕ). words_value xs / 2 ^ q % 2 ^ 128) place

joined_128 : (x r s : ℕ) → r + s ≡ 128 → bit_or (x % 2 ^ 128 / 2 ^ r) (x / 2 ^ 128 % 2 ^ 128 * 2 ^ s % 2 ^ 128) ≡ x / 2 ^ r % 2 ^ 128
joined_128 x r s e =
    let P : ℕ → Type 0 = λ w. bit_or (x % 2 ^ w / 2 ^ r) (x / 2 ^ w % 2 ^ w * 2 ^ s % 2 ^ w) ≡ x / 2 ^ r % 2 ^ w in
    subst P e (joined x r s)

pub window_split : (xs : List ℕ) (p v w : ℕ) → ((k : ℕ) → get_or xs k 0 < 2 ^ 128) → v ≡ get_or xs (p / 128) 0 → w ≡ get_or xs (p / 128 + 1) 0 → bit_or (v / 2 ^ (p % 128)) (w * 2 ^ (128 - p % 128) % 2 ^ 128) ≡ words_value xs / 2 ^ p % 2 ^ 128
window_split xs p v w h is next =
    let n = words_value xs in
    let q = p / 128 in
    let place : 128 * q + p % 128 ≡ p = omega arith in
    let following : 128 * (q + 1) ≡ 128 * q + 128 = omega arith in
    let e : n / 2 ^ p ≡ n / 2 ^ (128 * q) / 2 ^ (p % 128) =
    ap (λ (m : ℕ). n / 2 ^ m) (sym place) ∙ sym (shr-shr n (128 * q) (p % 128)) in
    let f : w ≡ n / 2 ^ (128 * q) / 2 ^ 128 % 2 ^ 128 =
    next ∙ word_is xs h (q + 1) ∙ ap (λ (m : ℕ). n / 2 ^ m % 2 ^ 128) following
    ∙ ap (λ (m : ℕ). m % 2 ^ 128) (sym (shr-shr n (128 * q) 128)) in
    let g : v ≡ n / 2 ^ (128 * q) % 2 ^ 128 = is ∙ word_is xs h q in
    rw (g, f, e) (joined_128 (n / 2 ^ (128 * q)) (p % 128) (128 - p % 128) (omega arith))

pub ruleset window_facts = (window_aligned, window_split)

-- ---- shifts

pub raised_far : (v by place : ℕ) → by ≤ place → v * 2 ^ by / 2 ^ place ≡ v / 2 ^ (place - by)
raised_far v by place h =
    let e : by + (place - by) ≡ place = omega arith in
    ap (λ (m : ℕ). v * 2 ^ by / 2 ^ m) (sym e) ∙ sym (shr-shr (v * 2 ^ by) by (place - by))
    ∙ ap (λ (m : ℕ). m / 2 ^ (place - by)) (shl-shr v by)

pub raised_up : (v by place : ℕ) → place ≤ by → v * 2 ^ by / 2 ^ place ≡ v * 2 ^ (by - place)
raised_up v by place h =
    let e : by ≡ (by - place) + place = omega arith in
    let f : v * 2 ^ by ≡ v * 2 ^ (by - place) * 2 ^ place =
    ap (λ (m : ℕ). v * 2 ^ m) e ∙ ap (λ (m : ℕ). v * m) (pow-add 2 (by - place) place) ∙ sym (mul_assoc v (2 ^ (by - place)) (2 ^ place)) in
    ap (λ (m : ℕ). m / 2 ^ place) f ∙ shl-shr (v * 2 ^ (by - place)) place

pub raised_near : (v by place low : ℕ) → place ≤ by → low ≡ v / 2 ^ 0 % 2 ^ 128 → low * 2 ^ (by - place) % 2 ^ 128 ≡ v * 2 ^ by / 2 ^ place % 2 ^ 128
raised_near v by place low h is =
    let e : low ≡ v % 2 ^ 128 = is ∙ ap (λ (m : ℕ). m % 2 ^ 128) (div-one v) in
    rw (e, raised_up v by place h) (mul-mod_first v (2 ^ (by - place)) (2 ^ 128))

pub raised_past : (v by place : ℕ) → place + 128 ≤ by → v * 2 ^ by / 2 ^ place % 2 ^ 128 ≡ 0
raised_past v by place h =
    let e : by - place ≡ (by - place - 128) + 128 = omega arith in
    let f : v * 2 ^ (by - place) ≡ v * 2 ^ (by - place - 128) * 2 ^ 128 =
    ap (λ (m : ℕ). v * 2 ^ m) e ∙ ap (λ (m : ℕ). v * m) (pow-add 2 (by - place - 128) 128) ∙ sym (mul_assoc v (2 ^ (by - place - 128)) (2 ^ 128)) in
    rw (raised_up v by place (omega arith), f) (mul-mod_left (v * 2 ^ (by - place - 128)) (2 ^ 128))

pub ruleset raised_facts = (raised_far, raised_near, raised_past)

-- ---- the lowest bits

pub mask_word : (w d : ℕ) → d < 128 → bit_and w (1 * 2 ^ d % 2 ^ 128 - 1) ≡ w % 2 ^ d
mask_word w d h = rw (one_shl d 128 h) (and_mask w d)

pub one_shl_pos : (d : ℕ) → d < 128 → 1 ≤ 1 * 2 ^ d % 2 ^ 128
one_shl_pos d h = rw (one_shl d 128 h) (pow_pos d)

pub whole_word : (w d : ℕ) → w < 2 ^ 128 → 128 ≤ d → w % 2 ^ d ≡ w
whole_word w d h k = mod-eq_of_lt (let p : 2 ^ 128 ≤ 2 ^ d = pow-le-pow_right (omega arith) k in omega arith)

pub no_bit : (w a b : ℕ) → a ≤ b → w % 2 ^ (a - b) ≡ 0
no_bit w a b h = let e : a - b ≡ 0 = omega arith in rw e (mod-one w)

pub ruleset kept_facts = (mask_word, one_shl_pos, whole_word, no_bit)

mod_shorter : (m a b : ℕ) → a ≤ b → m % 2 ^ a % 2 ^ b ≡ m % 2 ^ b % 2 ^ a
mod_shorter m a b h =
    let e : (b - a) + a ≡ b = omega arith in
    let p : 2 ^ a ≤ 2 ^ b = pow-le-pow_right (omega arith) h in
    mod-eq_of_lt (let q : m % 2 ^ a < 2 ^ a = mod_below _ _ (pow_pos a) in omega arith)
    ∙ sym (mod-mod-pow m (b - a) a) ∙ ap (λ (k : ℕ). m % 2 ^ k % 2 ^ a) e

mod_swap : (m a b : ℕ) → m % 2 ^ a % 2 ^ b ≡ m % 2 ^ b % 2 ^ a
mod_swap m a b = by_le a b (λ h. mod_shorter m a b h) (λ h. sym (mod_shorter m b a h))

pub kept_digit : (n w p : ℕ) → n % 2 ^ w / 2 ^ p % 2 ^ 128 ≡ n / 2 ^ p % 2 ^ 128 % 2 ^ (w - p)
kept_digit n w p =
    by_le p w
    (λ h. let e : w ≡ (w - p) + p = omega arith in
    ap (λ (m : ℕ). n % 2 ^ m / 2 ^ p % 2 ^ 128) e ∙ ap (λ (m : ℕ). m % 2 ^ 128) (field_of n (w - p) p)
    ∙ mod_swap (n / 2 ^ p) (w - p) 128)
    (λ h. let q : 2 ^ w ≤ 2 ^ p = pow-le-pow_right (omega arith) h in
    let s : n % 2 ^ w < 2 ^ w = mod_below _ _ (pow_pos w) in
    let z : n % 2 ^ w / 2 ^ p ≡ 0 = div-eq_of_lt (omega arith) in
    rw (z, no_bit (n / 2 ^ p % 2 ^ 128) w p h) (omega arith))

-- the loop of `lower`
pub lowered : (xs ys : List ℕ) (by width : ℕ) → width ≤ 128 * length ys → ((k : ℕ) → k < length ys → get_or ys k 0 ≡ words_value xs / 2 ^ (by + 128 * k) % 2 ^ 128 % 2 ^ (width - 128 * k)) → words_value ys ≡ words_value xs / 2 ^ by % 2 ^ width
lowered xs ys by width room h =
    built_exactly ys (words_value xs / 2 ^ by % 2 ^ width)
    (λ k l. h k l
    ∙ ap (λ (m : ℕ). m % 2 ^ 128 % 2 ^ (width - 128 * k)) (sym (shr-shr (words_value xs) by (128 * k)))
    ∙ sym (kept_digit (words_value xs / 2 ^ by) width (128 * k)))
    (let p : 2 ^ width ≤ 2 ^ (128 * length ys) = pow-le-pow_right (omega arith) room in
    let q : words_value xs / 2 ^ by % 2 ^ width < 2 ^ width = mod_below _ _ (pow_pos width) in omega arith)

-- the loop of `join`
pub stacked : (hs ls ys : List ℕ) (by : ℕ) → ((k : ℕ) → get_or ls k 0 < 2 ^ 128) → words_value ls < 2 ^ by → words_value hs * 2 ^ by + words_value ls < 2 ^ (128 * length ys) → ((k : ℕ) → k < length ys → get_or ys k 0 ≡ bit_or (words_value hs * 2 ^ by / 2 ^ (128 * k) % 2 ^ 128) (slice_index ls k)) → words_value ys ≡ words_value hs * 2 ^ by + words_value ls
stacked hs ls ys by p low room h =
    let e : bit_or (words_value hs * 2 ^ by) (words_value ls) ≡ words_value hs * 2 ^ by + words_value ls = or_shifted (words_value hs) by (words_value ls) low in
    built_exactly ys (bit_or (words_value hs * 2 ^ by) (words_value ls))
    (λ k l. h k l ∙ ap (λ (m : ℕ). bit_or (words_value hs * 2 ^ by / 2 ^ (128 * k) % 2 ^ 128) m) (word_is ls p k) ∙ sym (rw (or_shr, or_mod) refl))
    (rw e room) ∙ e

-- the loop of `keep_low` has done the words below i
pub record Kept (n width i : ℕ) (xs : List ℕ) : Type 0 where
  pub before : (k : ℕ) → k < i → get_or xs k 0 ≡ n % 2 ^ width / 2 ^ (128 * k) % 2 ^ 128
  pub after : (k : ℕ) → i ≤ k → get_or xs k 0 ≡ n / 2 ^ (128 * k) % 2 ^ 128

pub kept_none : (xs : List ℕ) (width : ℕ) → ((k : ℕ) → get_or xs k 0 < 2 ^ 128) → Kept (words_value xs) width 0 xs
kept_none xs width h = record { before = λ k l. absurd (omega arith); after = λ k l. word_is xs h k }

pub kept_more : (n width i w : ℕ) (xs : List ℕ) → i < length xs → Kept n width i xs → w ≡ get_or xs i 0 % 2 ^ (width - 128 * i) → Kept n width (i + 1) (set xs i w)
kept_more n width i w xs h kept is = record {
  before = below_more _ _
      (λ k l. let ne : k ≢ i = omega arith in rw get_or-set_other (kept.before k l))
      (rw get_or-set_same (is ∙ ap (λ (m : ℕ). m % 2 ^ (width - 128 * i)) (kept.after i (omega arith)) ∙ sym (kept_digit n width (128 * i))));
  after = λ k l. let ne : k ≢ i = omega arith in rw get_or-set_other (kept.after k (omega arith));
}

pub kept_all : (n width : ℕ) (xs : List ℕ) → n < 2 ^ (128 * length xs) → Kept n width (length xs) xs → words_value xs ≡ n % 2 ^ width
kept_all n width xs h kept = built_exactly xs (n % 2 ^ width) kept.before (let p : n % 2 ^ width ≤ n = mod-le n (2 ^ width) in omega arith)

pub ruleset keep_facts = (kept_none, kept_more, kept_all, words_lt)

-- ---- bit by bit

pub and_done : (xs ys zs : List ℕ) → ((k : ℕ) → get_or xs k 0 < 2 ^ 128) → ((k : ℕ) → get_or ys k 0 < 2 ^ 128) → length zs ≡ length xs → ((k : ℕ) → k < length zs → get_or zs k 0 ≡ bit_and (get_or xs k 0) (get_or ys k 0)) → words_value zs ≡ bit_and (words_value xs) (words_value ys)
and_done xs ys zs p q e h =
    built_exactly zs _
    (λ k l. h k l ∙ rw (word_is xs p k, word_is ys q k, and_shr, and_mod) refl)
    (let s : bit_and (words_value xs) (words_value ys) ≤ words_value xs = and_le_l _ _ in rw e (omega (arith, words_lt xs p)))

pub or_done : (xs ys zs : List ℕ) → ((k : ℕ) → get_or xs k 0 < 2 ^ 128) → ((k : ℕ) → get_or ys k 0 < 2 ^ 128) → length zs ≡ length xs → length zs ≡ length ys → ((k : ℕ) → k < length zs → get_or zs k 0 ≡ bit_or (get_or xs k 0) (get_or ys k 0)) → words_value zs ≡ bit_or (words_value xs) (words_value ys)
or_done xs ys zs p q e f h =
    built_exactly zs _
    (λ k l. h k l ∙ rw (word_is xs p k, word_is ys q k, or_shr, or_mod) refl)
    (or_lt (128 * length zs) (words_value xs) (words_value ys) (rw e (words_lt xs p)) (rw f (words_lt ys q)))

pub xor_done : (xs ys zs : List ℕ) → ((k : ℕ) → get_or xs k 0 < 2 ^ 128) → ((k : ℕ) → get_or ys k 0 < 2 ^ 128) → length zs ≡ length xs → length zs ≡ length ys → ((k : ℕ) → k < length zs → get_or zs k 0 ≡ bit_xor (get_or xs k 0) (get_or ys k 0)) → words_value zs ≡ bit_xor (words_value xs) (words_value ys)
xor_done xs ys zs p q e f h =
    built_exactly zs _
    (λ k l. h k l ∙ rw (word_is xs p k, word_is ys q k, xor_shr, xor_mod) refl)
    (xor_lt (128 * length zs) (words_value xs) (words_value ys) (rw e (words_lt xs p)) (rw f (words_lt ys q)))

pub ruleset bitwise_done = (and_done, or_done, xor_done)

complement_sum : (xs ys : List ℕ) → ((k : ℕ) → get_or xs k 0 < 2 ^ 128) → length ys ≡ length xs → ((k : ℕ) → k < length ys → get_or ys k 0 ≡ 2 ^ 128 - 1 - get_or xs k 0) → words_value ys + words_value xs + 1 ≡ 2 ^ (128 * length ys)
unfolding words_value
complement_sum [] [] p e h = refl
complement_sum [] (y ∷ ys) p e h = absurd (omega arith)
complement_sum (x ∷ xs) [] p e h = absurd (omega arith)
complement_sum (x ∷ xs) (y ∷ ys) p e h =
    let s : 128 * suc (length ys) ≡ 128 + 128 * length ys = omega arith in
    let ih : words_value ys + words_value xs + 1 ≡ 2 ^ (128 * length ys) =
    complement_sum xs ys (λ k. p (suc k)) (omega arith) (λ k l. h (suc k) (omega arith)) in
    rw (s, pow-add 2 128 (128 * length ys)) (omega (arith, p 0, h 0 (omega arith), ih))

pub inverted : (xs ys : List ℕ) → ((k : ℕ) → get_or xs k 0 < 2 ^ 128) → length ys ≡ length xs → ((k : ℕ) → k < length ys → get_or ys k 0 ≡ 2 ^ 128 - 1 - get_or xs k 0) → words_value ys ≡ 2 ^ (128 * length ys) - 1 - words_value xs
inverted xs ys p e h = omega (arith, complement_sum xs ys p e h)

-- ---- sums

-- what the words below i carry over
abbrev pub carried : ℕ → ℕ → ℕ → ℕ → ℕ
carried a b c i = (a % 2 ^ (128 * i) + b % 2 ^ (128 * i) + c) / 2 ^ (128 * i)

sum_split : (a b c p : ℕ) → 0 < p → (a + b + c) / p ≡ a / p + b / p + (a % p + b % p + c) / p
sum_split a b c p h =
    let e : a + b + c ≡ (a % p + b % p + c) + (a / p + b / p) * p = omega (arith, div-add-mod' a p, div-add-mod' b p) in
    ap (λ (m : ℕ). m / p) e ∙ add-mul-div_right (a % p + b % p + c) (a / p + b / p) h ∙ add_comm _ _

mod_parts : (u v w m : ℕ) → (u % m + v % m + w) % m ≡ (u + v + w) % m
mod_parts u v w m =
    let e : u + v + w ≡ (u % m + v % m + w) + (u / m + v / m) * m = omega (arith, div-add-mod' u m, div-add-mod' v m) in
    rw e (sym (add-mul-mod_self_right (u % m + v % m + w) (u / m + v / m) m))

pub sum_word : (a b c i s : ℕ) → s ≡ (a / 2 ^ (128 * i) % 2 ^ 128 + b / 2 ^ (128 * i) % 2 ^ 128 + carried a b c i) % 2 ^ 128 → s ≡ (a + b + c) / 2 ^ (128 * i) % 2 ^ 128
sum_word a b c i s h =
    h ∙ mod_parts (a / 2 ^ (128 * i)) (b / 2 ^ (128 * i)) (carried a b c i) (2 ^ 128)
    ∙ ap (λ (m : ℕ). m % 2 ^ 128) (sym (sum_split a b c (2 ^ (128 * i)) (pow_pos (128 * i))))

carried_next : (a b c k : ℕ) → (a % 2 ^ (128 + k) + b % 2 ^ (128 + k) + c) / 2 ^ (128 + k) ≡ (a / 2 ^ k % 2 ^ 128 + b / 2 ^ k % 2 ^ 128 + (a % 2 ^ k + b % 2 ^ k + c) / 2 ^ k) / 2 ^ 128
carried_next a b c k =
    let p = 2 ^ k in
    let x = a / 2 ^ k % 2 ^ 128 in
    let y = b / 2 ^ k % 2 ^ 128 in
    let e : a % 2 ^ (128 + k) + b % 2 ^ (128 + k) + c ≡ (a % 2 ^ k + b % 2 ^ k + c) + (x + y) * 2 ^ k =
    omega (arith, mod-pow-add a 128 k, mod-pow-add b 128 k) in
    ap (λ (m : ℕ). m / 2 ^ (128 + k)) e
    ∙ ap (λ (m : ℕ). ((a % 2 ^ k + b % 2 ^ k + c) + (x + y) * 2 ^ k) / 2 ^ m) (add_comm 128 k)
    ∙ sym (shr-shr ((a % 2 ^ k + b % 2 ^ k + c) + (x + y) * 2 ^ k) k 128)
    ∙ ap (λ (m : ℕ). m / 2 ^ 128) (add-mul-div_right (a % 2 ^ k + b % 2 ^ k + c) (x + y) (pow_pos k) ∙ add_comm _ _)

-- the words behind those in use are 0
pub no_words : (m : ℕ) → words_value (replicate m 0) ≡ 0
unfolding words_value
no_words zero = refl
no_words (suc m) = omega (arith, no_words m)

pub nothing_behind : (n m : ℕ) → words_value (drop n (replicate m 0)) ≡ 0
unfolding words_value
nothing_behind zero m = no_words m
nothing_behind (suc n) zero = refl
nothing_behind (suc n) (suc m) = nothing_behind n m

words_append : (xs ys : List ℕ) → words_value ys ≡ 0 → words_value (xs ++ ys) ≡ words_value xs
unfolding words_value
words_append [] ys h = h
words_append (x ∷ xs) ys h = omega (arith, words_append xs ys h)

pub padded : (xs : List ℕ) (n m : ℕ) → words_value (xs ++ drop n (replicate m 0)) ≡ words_value xs
padded xs n m = words_append xs (drop n (replicate m 0)) (nothing_behind n m)

-- a number that k words hold is in the first k
pub in_first : (xs : List ℕ) (k : ℕ) → words_value xs < 2 ^ (128 * k) → words_value (take k xs) ≡ words_value xs
unfolding words_value
in_first [] zero h = refl
in_first [] (suc k) h = refl
in_first (x ∷ xs) zero h = omega arith
in_first (x ∷ xs) (suc k) h =
    let e : 128 * suc k ≡ 128 + 128 * k = omega arith in
    let p : 2 ^ (128 * suc k) ≡ 2 ^ 128 * 2 ^ (128 * k) = ap (λ (m : ℕ). 2 ^ m) e ∙ pow-add 2 128 (128 * k) in
    omega (arith, in_first xs k (omega arith))

pub record Summed (a b c i : ℕ) (over : Bool) (zs : List ℕ) : Type 0 where
  pub shown : Shows (a + b + c) i zs
  pub carry : from_bool over ≡ carried a b c i

pub summed_none : (a b : ℕ) (c : Bool) (zs : List ℕ) → Summed a b (from_bool c) 0 c zs
summed_none a b c zs = record { shown = λ k l. absurd (omega arith); carry = omega arith }

pub summed_more : (xs ys zs : List ℕ) (c i s : ℕ) (over next : Bool) → ((k : ℕ) → get_or xs k 0 < 2 ^ 128) → ((k : ℕ) → get_or ys k 0 < 2 ^ 128) → i < length zs → Summed (words_value xs) (words_value ys) c i over zs → s ≡ (get_or xs i 0 + get_or ys i 0 + from_bool over) % 2 ^ 128 → from_bool next ≡ (get_or xs i 0 + get_or ys i 0 + from_bool over) / 2 ^ 128 → Summed (words_value xs) (words_value ys) c (i + 1) next (set zs i s)
summed_more xs ys zs c i s over next p q h old is more =
    let a = words_value xs in
    let b = words_value ys in
    let parts : get_or xs i 0 + get_or ys i 0 + from_bool over ≡ a / 2 ^ (128 * i) % 2 ^ 128 + b / 2 ^ (128 * i) % 2 ^ 128 + carried a b c i =
    omega (arith, word_is xs p i, word_is ys q i, old.carry) in
    let place : 128 + 128 * i ≡ 128 * (i + 1) = omega arith in
    record {
      shown = below_more _ _
          (λ k l. let ne : k ≢ i = omega arith in rw get_or-set_other (old.shown k l))
          (rw get_or-set_same (sum_word a b c i s (is ∙ ap (λ (m : ℕ). m % 2 ^ 128) parts)));
      carry = more ∙ ap (λ (m : ℕ). m / 2 ^ 128) parts ∙ sym (carried_next a b c (128 * i))
          ∙ ap (λ (m : ℕ). (a % 2 ^ m + b % 2 ^ m + c) / 2 ^ m) place;
    }

pub summed_all : (a b c i : ℕ) (over : Bool) (zs : List ℕ) → length zs ≡ i → Summed a b c i over zs → words_value zs ≡ (a + b + c) % 2 ^ (128 * length zs)
summed_all a b c i over zs e h = built zs (a + b + c) (subst (λ (m : ℕ). Shows (a + b + c) m zs) (sym e) h.shown)

pub ruleset add_facts = (summed_none, summed_more, summed_all)

-- ---- one word

pub single_big : (xs : List ℕ) (k : ℕ) → ((i : ℕ) → get_or xs i 0 < 2 ^ 128) → 1 ≤ k → get_or xs k 0 ≢ 0 → words_value xs < 2 ^ 128 → ⊥
single_big xs k p h ne small =
    let m : 128 ≤ 128 * k = omega arith in
    let q : 2 ^ 128 ≤ 2 ^ (128 * k) = pow-le-pow_right (omega arith) m in
    let z : words_value xs / 2 ^ (128 * k) ≡ 0 = div-eq_of_lt (omega arith) in
    ne (word_is xs p k ∙ ap (λ (m : ℕ). m % 2 ^ 128) z)

zeros_value : (xs : List ℕ) → ((k : ℕ) → k < length xs → get_or xs k 0 ≡ 0) → words_value xs ≡ 0
unfolding words_value
zeros_value [] h = refl
zeros_value (x ∷ xs) h = omega (arith, h 0 (omega arith), zeros_value xs (λ k l. h (suc k) (omega arith)))

pub single_small : (xs : List ℕ) (w : ℕ) → ((i : ℕ) → get_or xs i 0 < 2 ^ 128) → ((k : ℕ) → 1 ≤ k → k < length xs → get_or xs k 0 ≡ 0) → w ≡ get_or xs 0 0 → (words_value xs < 2 ^ 128) × (w ≡ words_value xs)
unfolding words_value
single_small [] w p h e = (omega arith, e)
single_small (x ∷ xs) w p h e =
    let z : words_value xs ≡ 0 = zeros_value xs (λ k l. h (suc k) (omega arith) (omega arith)) in
    (omega (arith, p 0), omega arith)

pub ruleset single_facts = (single_big, single_small)

same_words : (xs ys : List ℕ) → ((i : ℕ) → get_or xs i 0 < 2 ^ 128) → ((i : ℕ) → get_or ys i 0 < 2 ^ 128) → length xs ≡ length ys → words_value xs ≡ words_value ys → xs ≡ ys
unfolding words_value
same_words [] [] p q e h = refl
same_words [] (y ∷ ys) p q e h = absurd (omega arith)
same_words (x ∷ xs) [] p q e h = absurd (omega arith)
same_words (x ∷ xs) (y ∷ ys) p q e h =
    let first : x ≡ y = omega (arith, p 0, q 0) in
    let rest : xs ≡ ys = same_words xs ys (λ i. p (suc i)) (λ i. q (suc i)) (omega arith) (omega (arith, p 0, q 0)) in cc

pub same_test : (xs ys : List ℕ) (b : Bool) → ((i : ℕ) → get_or xs i 0 < 2 ^ 128) → ((i : ℕ) → get_or ys i 0 < 2 ^ 128) → length xs ≡ length ys → b ≡ bytes_eq xs ys → IsTrue b ↔ (words_value xs ≡ words_value ys)
same_test xs ys b p q e is =
    (λ t. ap words_value ((bytes_decides xs ys).0 (sym is ∙ t)), λ h. is ∙ (bytes_decides xs ys).1 (same_words xs ys p q e h))

pub mod_longer : (n a b : ℕ) → b ≤ a → n % 2 ^ a % 2 ^ b ≡ n % 2 ^ b
mod_longer n a b h =
    let e : a ≡ (a - b) + b = omega arith in ap (λ (m : ℕ). n % 2 ^ m % 2 ^ b) e ∙ mod-mod-pow n (a - b) b

pub complement_done : (n a b v : ℕ) → b ≤ a → n < 2 ^ b → v ≡ 2 ^ a - 1 - n → v % 2 ^ b ≡ 2 ^ b - 1 - n
complement_done n a b v h k is =
    let e : a ≡ (a - b) + b = omega arith in
    ap (λ (m : ℕ). m % 2 ^ b) is ∙ ap (λ (m : ℕ). (2 ^ m - 1 - n) % 2 ^ b) e ∙ not_mod (a - b) b k
