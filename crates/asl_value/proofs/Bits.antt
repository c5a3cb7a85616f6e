-- Operations on bits give what the rules say.
use Rattle.std.proofs.Common.{◌≡◌, ℕ, suc, ◌+◌, ◌-◌, ◌*◌, ◌/◌, ◌%◌, ◌^◌, ◌<◌, ◌≤◌, Bool, true, false, cond, List, [], ◌∷◌, ◌++◌, length, Ok, Err, refl, sym, ap, ◌∙◌, arith}
use Rattle.std.specs.Prelude.{ℤ, pos, negsuc, ◌+ℤ◌, ◌-ℤ◌, nat_le, IsTrue, ◌↔◌}
use Rattle.std.proofs.Math.Nat.{mod-eq_of_lt, add-mul-mod_self_left, div-add-mod}
use Rattle.std.proofs.lemmas.Bool.{cases_lt}
use Rattle.std.proofs.lemmas.Int.{ints}
use mathlib.Core.Logic.{inl, inr}
use Rattle.std.proofs.lemmas.Nat.{pow_pos, mod_below}
use Rattle.asl_syn.specs.declared.token.Span.{Span}
use Rattle.asl_syn.specs.declared.code.DynCode.TheVariants.{D14}
use Rattle.asl_num.specs.Exact.{floor_mod}
use Rattle.asl_num.proofs.Laws.{floor_law}
use Rattle.asl_bits.specs.declared.TheConstants.{WIDTH_LIMIT}
use Rattle.asl_bits.specs.declared.BitsRefused.{BitsRefused}
use Rattle.asl_bits.specs.Answers.{IsConcat}
use Rattle.asl_bits.specs.Lists.{bits_value, bits_of, int_bits}
use Rattle.asl_bits.proofs.Lists.{low_bits, length-bits_of, value_below}
use Rattle.asl_rules.specs.values.Operators.{same_bits, plain_bits, concatenated}
use Rattle.asl_rules.specs.runs.Plans.{Faulted, Good, Bad}

-- ---- concatenation

pub joined : (span : Span) (r a b : List Bool) → IsConcat (Ok r) a b → concatenated WIDTH_LIMIT span a b ≡ Good (plain_bits r)
joined span r a b h = by (nat_le (length a + length b) WIDTH_LIMIT) refl
  where
    by : (t : Bool) → nat_le (length a + length b) WIDTH_LIMIT ≡ t → cond t (Good (plain_bits (b ++ a))) (Bad (Faulted D14 span)) ≡ Good (plain_bits r)
    by true e = let k : length a + length b ≤ WIDTH_LIMIT = grind arith in let s = h.1 k in cc
    by false e = let k : WIDTH_LIMIT < length a + length b = grind arith in let s = h.0 k in cc

pub too_wide : (span : Span) (r : BitsRefused) (a b : List Bool) → IsConcat (Err r) a b → concatenated WIDTH_LIMIT span a b ≡ Bad (Faulted D14 span)
too_wide span r a b h = by (nat_le (length a + length b) WIDTH_LIMIT) refl
  where
    by : (t : Bool) → nat_le (length a + length b) WIDTH_LIMIT ≡ t → cond t (Good (plain_bits (b ++ a))) (Bad (Faulted D14 span)) ≡ Bad (Faulted D14 span)
    by true e = let k : length a + length b ≤ WIDTH_LIMIT = grind arith in let s = h.1 k in cc
    by false e = refl

-- ---- equality

same_self : (a : List Bool) → same_bits a a ≡ true
same_self [] = refl
same_self (true ∷ a) = same_self a
same_self (false ∷ a) = same_self a

same_then : (a b : List Bool) → same_bits a b ≡ true → a ≡ b
same_then [] [] h = refl
same_then [] (y ∷ b) h = cc
same_then (x ∷ a) [] h = cc
same_then (true ∷ a) (true ∷ b) h = ap (λ l. true ∷ l) (same_then a b h)
same_then (true ∷ a) (false ∷ b) h = cc
same_then (false ∷ a) (true ∷ b) h = cc
same_then (false ∷ a) (false ∷ b) h = ap (λ l. false ∷ l) (same_then a b h)

pub same_is : (r : Bool) (a b : List Bool) → IsTrue r ↔ (a ≡ b) → r ≡ same_bits a b
same_is r a b h = by r (same_bits a b) refl refl
  where
    by : (t u : Bool) → r ≡ t → same_bits a b ≡ u → t ≡ u
    by true true e f = refl
    by false false e f = refl
    by true false e f = let s : a ≡ b = grind arith in let g = ap (same_bits a) s in let k = same_self a in cc
    by false true e f = let s = same_then a b f in grind arith

-- ---- sums

less_floor : (z : ℤ) (w : ℕ) → floor_mod z (2 ^ w) < 2 ^ w
less_floor z w = (floor_law z (2 ^ w) (pow_pos w)).1

value_of_int : (z : ℤ) (w : ℕ) → bits_value (int_bits w z) ≡ floor_mod z (2 ^ w)
value_of_int z w = value_below w (floor_mod z (2 ^ w)) (less_floor z w)

spread : (m q d : ℕ) → m * (q + 1 + d) ≡ m * q + m + m * d
spread m q d = omega arith

both_times : (m a b : ℕ) → m * (a + b) ≡ m * a + m * b
both_times m a b = omega arith

-- a difference is the same where a multiple is added first
difference : (v n m k : ℕ) → 0 < m → n ≤ v + m * k → floor_mod (pos v -ℤ pos n) m ≡ (v + m * k - n) % m
difference v n m k above h = by_lt v n
    (λ l. let d : ℕ = n - v - 1 in
    let e : pos v -ℤ pos n ≡ negsuc (n - v - 1) = omega (arith, ints) in
    let f : m * ((n - v - 1) / m) + (n - v - 1) % m ≡ n - v - 1 = div-add-mod (n - v - 1) m in
    let g : (n - v - 1) % m < m = mod_below (n - v - 1) m above in
    ap (λ z. floor_mod z m) e ∙ sym (negative m k ((n - v - 1) / m) ((n - v - 1) % m) (v + m * k - n) above g (omega arith)))
    (λ l. let e : pos v -ℤ pos n ≡ pos (v - n) = omega (arith, ints) in
    let f : v + m * k - n ≡ v - n + m * k = omega arith in
    ap (λ z. floor_mod z m) e ∙ sym (ap (λ a. a % m) f ∙ add-mul-mod_self_left (v - n) m k))
  where
    by_lt : {P : Type 0} (a b : ℕ) → (a < b → P) → (b ≤ a → P) → P
    by_lt a b f g = elim (cases_lt a b) [ inl l ↦ f l | inr l ↦ g l ]

    negative : (m k q r s : ℕ) → 0 < m → r < m → s + (m * q + r) + 1 ≡ m * k → s % m ≡ m - 1 - r
    negative m k q r s above below e = by_lt q k
        (λ l. let up : k ≡ q + 1 + (k - q - 1) = omega arith in
        let split : m * k ≡ m * q + m + m * (k - q - 1) = ap (λ n. m * n) up ∙ spread m q (k - q - 1) in
        let is : s ≡ m - 1 - r + m * (k - q - 1) = omega arith in
        ap (λ a. a % m) is ∙ add-mul-mod_self_left (m - 1 - r) m (k - q - 1) ∙ mod-eq_of_lt (omega arith))
        (λ l. let up : q ≡ k + (q - k) = omega arith in
        let more : m * q ≡ m * k + m * (q - k) = ap (λ n. m * n) up ∙ both_times m k (q - k) in
        absurd (omega arith))

added : (z : ℤ) (v m : ℕ) → 0 < m → (v + floor_mod z m) % m ≡ floor_mod (pos v +ℤ z) m
added (pos a) v m above =
    let e : v + a ≡ v + a % m + m * (a / m) = let f = div-add-mod a m in omega arith in
    sym (ap (λ n. n % m) e ∙ add-mul-mod_self_left (v + a % m) m (a / m))
added (negsuc a) v m above =
    let f : m * (a / m) + a % m ≡ a = div-add-mod a m in
    let g : a % m < m = mod_below a m above in
    let k : m * suc (a / m) ≡ m * (a / m) + m = grind arith in
    let e : pos v +ℤ negsuc a ≡ pos v -ℤ pos (suc a) = omega (arith, ints) in
    let s : v + (m - 1 - a % m) ≡ v + m * suc (a / m) - suc a = omega arith in
    ap (λ n. n % m) s ∙ sym (ap (λ z. floor_mod z m) e ∙ difference v (suc a) m (suc (a / m)) above (omega arith))

taken : (z : ℤ) (v m : ℕ) → 0 < m → floor_mod (pos v -ℤ pos (floor_mod z m)) m ≡ floor_mod (pos v -ℤ z) m
taken (pos a) v m above =
    let f : m * (a / m) + a % m ≡ a = div-add-mod a m in
    let g : a % m < m = mod_below a m above in
    let k : m * suc (a / m) ≡ m * (a / m) + m = grind arith in
    let j : m * 1 ≡ m = grind arith in
    let s : v + m * 1 - a % m ≡ v + m * suc (a / m) - a = omega arith in
    difference v (a % m) m 1 above (omega arith) ∙ ap (λ n. n % m) s ∙ sym (difference v a m (suc (a / m)) above (omega arith))
taken (negsuc a) v m above =
    let f : m * (a / m) + a % m ≡ a = div-add-mod a m in
    let g : a % m < m = mod_below a m above in
    let j : m * 1 ≡ m = grind arith in
    let e : pos v -ℤ negsuc a ≡ pos (v + a + 1) = omega (arith, ints) in
    let s : v + a + 1 ≡ v + m * 1 - (m - 1 - a % m) + m * (a / m) = omega arith in
    difference v (m - 1 - a % m) m 1 above (omega arith) ∙ sym (ap (λ z. floor_mod z m) e ∙ ap (λ n. n % m) s ∙ add-mul-mod_self_left (v + m * 1 - (m - 1 - a % m)) m (a / m))

pub sum_is : (r a b : List Bool) → r ≡ bits_of (length a) (bits_value a + bits_value b) → r ≡ int_bits (length a) (pos (bits_value a) +ℤ pos (bits_value b))
sum_is r a b h = h ∙ sym (low_bits (length a) (bits_value a + bits_value b))

pub width_of_integer : (z : ℤ) (w : ℕ) (a b : List Bool) → w ≡ length a → b ≡ int_bits w z → length a ≡ length b
width_of_integer z w a b e f = sym e ∙ sym (length-bits_of w (floor_mod z (2 ^ w))) ∙ ap (λ l. length l) (sym f)

pub raised_is : (z : ℤ) (w : ℕ) (r a b : List Bool) → w ≡ length a → b ≡ int_bits w z → r ≡ bits_of (length a) (bits_value a + bits_value b) → r ≡ int_bits (length a) (pos (bits_value a) +ℤ z)
raised_is z w r a b e f h =
    let is : bits_value b ≡ floor_mod z (2 ^ length a) = ap bits_value f ∙ value_of_int z w ∙ ap (λ n. floor_mod z (2 ^ n)) e in
    h ∙ ap (λ n. bits_of (length a) (bits_value a + n)) is ∙ sym (low_bits (length a) (bits_value a + floor_mod z (2 ^ length a))) ∙
    ap (bits_of (length a)) (added z (bits_value a) (2 ^ length a) (pow_pos (length a)))

pub lowered_is : (z : ℤ) (w : ℕ) (r a b : List Bool) → w ≡ length a → b ≡ int_bits w z → r ≡ int_bits (length a) (pos (bits_value a) -ℤ pos (bits_value b)) → r ≡ int_bits (length a) (pos (bits_value a) -ℤ z)
lowered_is z w r a b e f h =
    let is : bits_value b ≡ floor_mod z (2 ^ length a) = ap bits_value f ∙ value_of_int z w ∙ ap (λ n. floor_mod z (2 ^ n)) e in
    h ∙ ap (λ n. int_bits (length a) (pos (bits_value a) -ℤ pos n)) is ∙ ap (bits_of (length a)) (taken z (bits_value a) (2 ^ length a) (pow_pos (length a)))
