-- What each function of `BitsOf` gives, from what its operands' words stand for. A lemma NAME_is ends in the clause of a
-- function; below_cat keeps a result within its width.
use Rattle.std.proofs.Common.{◌≡◌, ℕ, zero, suc, ◌+◌, ◌-◌, ◌*◌, ◌/◌, ◌%◌, ◌^◌, ◌<◌, ◌≤◌, List, [], ◌∷◌, length, take, drop, map, replicate, get_or, Bool, true, false, not, refl, sym, ◌∙◌, ap, subst, arith}
use Rattle.std.proofs.lemmas.Int.{ints}
use Rattle.std.proofs.lemmas.Bool.{cases_lt}
use mathlib.Core.Logic.{inl, inr}
use Rattle.std.specs.Prelude.{◌==◌, IsTrue, ◌↔◌, ℤ, pos, negsuc, ◌-ℤ◌, ◌<ℤ◌, ◌≤ℤ◌, unsigned_abs}
use Rattle.std.proofs.Math.Nat.{mod-eq_of_lt, mul-le-mul_right, add_comm, add-mod_right}
use Rattle.std.proofs.lemmas.Nat.{pow_pos, pow-add, mod_below}
use Rattle.asl_num.specs.Exact.{floor_mod}
use Rattle.asl_bits.proofs.Lists.{length-bits_of, value_below, zero_bits, turned_bits, low_bits, take_bits, drop_bits, get_bit, same_bits, twice}
use Rattle.std.proofs.lemmas.Option.{slice_get-get_or, get_or_from_slice_get}
use Rattle.std.specs.Prelude.{slice_get, Some}
use Rattle.asl_bits.specs.Lists.{bits_value, bits_of, int_bits, top_bit, signed_value}

-- ---- the operations of bitvectors

pub slice_is : (bs : List Bool) (w k n m : ℕ) → k + m ≤ w → bs ≡ bits_of w n → bits_of m (n / 2 ^ k % 2 ^ m) ≡ take m (drop k bs)
slice_is bs w k n m h e =
    let room : m ≤ w - k = omega arith in
    low_bits m (n / 2 ^ k) ∙ sym (take_bits m (w - k) (n / 2 ^ k) room)
    ∙ ap (take m) (sym (drop_bits k w n (omega arith))) ∙ ap (λ (xs : List Bool). take m (drop k xs)) (sym e)

pub below_cat : (k w h n : ℕ) → n < 2 ^ k → h < 2 ^ w → h * 2 ^ k + n < 2 ^ (k + w)
below_cat k w h n p q =
    let e : suc h * 2 ^ k ≤ 2 ^ w * 2 ^ k = mul-le-mul_right (2 ^ k) q in
    let f : 2 ^ (k + w) ≡ 2 ^ w * 2 ^ k = rw (add_comm k w) (pow-add 2 w k) in
    let g : suc h * 2 ^ k ≡ h * 2 ^ k + 2 ^ k = omega arith in
    omega arith

-- ---- what the functions of `BitsOf` show, from their views

pub width_is : (w n : ℕ) (bs : List Bool) → bits_of w n ≡ bs → w ≡ length bs
width_is w n bs e = sym (length-bits_of w n) ∙ ap length e

same_width : (w u m n : ℕ) (xs ys : List Bool) → bits_of w m ≡ xs → bits_of u n ≡ ys → length xs ≡ length ys → u ≡ w
same_width w u m n xs ys e f l = width_is u n ys f ∙ sym l ∙ sym (width_is w m xs e)

pub not_is : (w n v : ℕ) (bs rs : List Bool) → bits_of w n ≡ bs → n < 2 ^ w → v ≡ 2 ^ w - 1 - n → rs ≡ bits_of w v → rs ≡ map not bs
not_is w n v bs rs e p i r = r ∙ ap (bits_of w) i ∙ turned_bits w n p ∙ ap (map not) e

pub sliced_is : (w n v k m : ℕ) (bs rs : List Bool) → bits_of w n ≡ bs → k + m ≤ w → v ≡ n / 2 ^ k % 2 ^ m → rs ≡ bits_of m v → rs ≡ take m (drop k bs)
sliced_is w n v k m bs rs e h i r = r ∙ ap (bits_of m) i ∙ slice_is bs w k n m h (sym e)

pub bit_is : (w n v k : ℕ) (bs : List Bool) → bits_of w n ≡ bs → k < w → v ≡ n / 2 ^ k % 2 ^ 128 → slice_get bs k ≡ Some (v % 2 == 1)
bit_is w n v k bs e h i =
    let f : v % 2 ≡ n / 2 ^ k % 2 = omega arith in
    let size : w ≡ length bs = width_is w n bs e in
    slice_get-get_or bs k false (omega (arith, size))
    ∙ ap (λ (b : Bool). Some b) (ap (λ (xs : List Bool). get_or xs k false) (sym e) ∙ get_bit w n k h ∙ ap (λ (m : ℕ). m == 1) (sym f))

pub top_is : (bs : List Bool) (b : Bool) (k : ℕ) → k ≡ length bs - 1 → slice_get bs k ≡ Some b → b ≡ top_bit bs
top_is bs b k e h = sym (get_or_from_slice_get bs k b false h) ∙ ap (λ (m : ℕ). get_or bs m false) e

pub top_none : (bs : List Bool) → length bs ≡ 0 → false ≡ top_bit bs
top_none [] e = refl
top_none (b ∷ bs) e = absurd (omega arith)

pub ruleset top_facts = (top_is, top_none)

pub same_is : (w u m n : ℕ) (xs ys : List Bool) (b : Bool) → bits_of w m ≡ xs → bits_of u n ≡ ys → length xs ≡ length ys → m < 2 ^ w → n < 2 ^ u → IsTrue b ↔ (m ≡ n) → IsTrue b ↔ (xs ≡ ys)
same_is w u m n xs ys b e f l p q t =
    let k = same_width w u m n xs ys e f l in (
      λ h. sym e ∙ ap (bits_of w) (t.0 h) ∙ ap (λ (j : ℕ). bits_of j n) (sym k) ∙ f,
      λ h. t.1 (same_bits w m n p (subst (λ (j : ℕ). n < 2 ^ j) k q) (e ∙ h ∙ sym f ∙ ap (λ (j : ℕ). bits_of j n) k)),
    )

pub value_shown : (w n : ℕ) (bs : List Bool) → bits_of w n ≡ bs → n < 2 ^ w → bits_value bs ≡ n
value_shown w n bs e p = ap bits_value (sym e) ∙ value_below w n p

turned_zeros : (w : ℕ) → map not (replicate w false) ≡ replicate w true
turned_zeros zero = refl
turned_zeros (suc w) = ap (λ (bs : List Bool). true ∷ bs) (turned_zeros w)

pub fill_false : (w n : ℕ) (bs : List Bool) → n ≡ 0 → bs ≡ bits_of w n → bs ≡ replicate w false
fill_false w n bs e r = r ∙ ap (bits_of w) e ∙ zero_bits w

pub fill_true : (w n : ℕ) (bs rs : List Bool) → n ≡ 0 → bs ≡ bits_of w n → rs ≡ map not bs → rs ≡ replicate w true
fill_true w n bs rs e r i = i ∙ ap (map not) (fill_false w n bs e r) ∙ turned_zeros w

pub ruleset fill_facts = (fill_false, fill_true)

pub wrap_negative : (z : ℤ) (w m : ℕ) (bs : List Bool) → z <ℤ pos 0 → m ≡ unsigned_abs z → bs ≡ bits_of w (m - 1) → map not bs ≡ int_bits w z
wrap_negative (pos n) w m bs h e r = absurd (omega (arith, ints))
wrap_negative (negsuc n) w m bs h e r =
    let f : m - 1 ≡ n = omega arith in
    ap (map not) (r ∙ ap (bits_of w) f ∙ sym (low_bits w n)) ∙ sym (turned_bits w (n % 2 ^ w) (mod_below _ _ (pow_pos w)))

pub wrap_positive : (z : ℤ) (w m : ℕ) → pos 0 ≤ℤ z → m ≡ unsigned_abs z → bits_of w m ≡ int_bits w z
wrap_positive (pos n) w m h e = ap (bits_of w) e ∙ sym (low_bits w n)
wrap_positive (negsuc n) w m h e = absurd (omega (arith, ints))

pub ruleset wrap_facts = (wrap_negative, wrap_positive)

below_power : (m n p : ℕ) → n < p → floor_mod (pos m -ℤ pos n) p ≡ (m + (p - 1 - n) + 1) % p
below_power m n p h = by_lt m n
    (λ l. let e : pos m -ℤ pos n ≡ negsuc (n - m - 1) = omega (arith, ints) in
    let f : (n - m - 1) % p ≡ n - m - 1 = mod-eq_of_lt (omega arith) in
    let g : (m + (p - 1 - n) + 1) % p ≡ m + (p - 1 - n) + 1 = mod-eq_of_lt (omega arith) in
    rw (e, f, g) (omega arith))
    (λ l. let e : pos m -ℤ pos n ≡ pos (m - n) = omega (arith, ints) in
    let f : m + (p - 1 - n) + 1 ≡ (m - n) + p = omega arith in
    rw (e, f) (sym (add-mod_right (m - n) p)))
  where
    by_lt : {P : Type 0} (a b : ℕ) → (a < b → P) → (b ≤ a → P) → P
    by_lt a b f g = elim (cases_lt a b) [ inl l ↦ f l | inr l ↦ g l ]

pub difference_is : (w u m n t v : ℕ) (xs ys rs : List Bool) → bits_of w m ≡ xs → bits_of u n ≡ ys → length xs ≡ length ys → m < 2 ^ w → n < 2 ^ u → t ≡ 2 ^ u - 1 - n → v ≡ (m + t + 1) % 2 ^ w → rs ≡ bits_of w v → rs ≡ int_bits (length xs) (pos (bits_value xs) -ℤ pos (bits_value ys))
difference_is w u m n t v xs ys rs e f l p q i j r =
    let k : u ≡ w = same_width w u m n xs ys e f l in
    let a : t ≡ 2 ^ w - 1 - n = i ∙ ap (λ (s : ℕ). 2 ^ s - 1 - n) k in
    let d : v ≡ floor_mod (pos m -ℤ pos n) (2 ^ w) =
    j ∙ ap (λ (s : ℕ). (m + s + 1) % 2 ^ w) a
    ∙ sym (below_power m n (2 ^ w) (subst (λ (s : ℕ). n < 2 ^ s) k q)) in
    r ∙ ap (bits_of w) d
    ∙ ap (λ (s : ℕ). int_bits w (pos s -ℤ pos n)) (sym (value_shown w m xs e p))
    ∙ ap (λ (s : ℕ). int_bits w (pos (bits_value xs) -ℤ pos s)) (sym (value_shown u n ys f q))
    ∙ ap (λ (s : ℕ). int_bits s (pos (bits_value xs) -ℤ pos (bits_value ys))) (width_is w m xs e)

turned_value : (bs : List Bool) → bits_value (map not bs) + bits_value bs + 1 ≡ 2 ^ length bs
unfolding bits_value
turned_value [] = refl
turned_value (true ∷ bs) = omega (arith, turned_value bs, twice (length bs))
turned_value (false ∷ bs) = omega (arith, turned_value bs, twice (length bs))

pub negative_value : (bs rs : List Bool) → top_bit bs ≡ true → rs ≡ map not bs → signed_value bs ≡ negsuc (bits_value rs)
negative_value bs rs h e =
    let f : bits_value rs ≡ bits_value (map not bs) = ap bits_value e in
    let g : pos (bits_value bs) -ℤ pos (2 ^ length bs) ≡ negsuc (bits_value rs) = omega (arith, ints, turned_value bs) in
    rw h g

pub positive_value : (bs : List Bool) → top_bit bs ≡ false → signed_value bs ≡ pos (bits_value bs)
positive_value bs h = rw h refl

pub ruleset signed_facts = (negative_value, positive_value)
