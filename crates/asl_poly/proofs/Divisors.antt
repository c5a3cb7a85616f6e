-- Divisors and multiples: the greatest number that divides some others, and the least that two divide.
use Rattle.std.proofs.Common.{◌⊎◌, inl, inr, ◌≡◌, ℕ, ◌+◌, ◌*◌, ◌/◌, ◌%◌, ◌<◌, ◌≤◌, zero, suc, List, [], ◌∷◌, true, false, ◌==◌, refl, subst, ◌∙◌, ap, arith}
use Rattle.std.specs.Int.{IsGcd}
use Rattle.std.proofs.Math.Nat.{mod_self, mod-one, dvd-mul_left, eq-zero_of_zero-dvd, le_antisymm}
use Rattle.std.proofs.lemmas.Nat.Gcd.{dvd_trans, le_of_dvd, dvd_of_mod-eq-zero, mod-eq-zero_of_dvd}
use Rattle.std.proofs.lemmas.Bool.Decides.{nat_tests}
use Rattle.std.proofs.lemmas.Bool.{cases_Bool}
use Rattle.asl_poly.specs.Denominators.{Divides, DivideEach, divides_each, greatest_divisor_up_to, greatest_common_divisor, least_common_multiple}

pub divides_exact : (k n : ℕ) → Divides k n → n / k * k ≡ n
divides_exact k n h = let e : n ≡ k * (n / k) + n % k = omega arith in omega arith

pub multiple_divides : (k m n : ℕ) → n ≡ m * k → Divides k n
multiple_divides k m n e = ap (λ x. x % k) e ∙ mod-eq-zero_of_dvd k (dvd-mul_left k m)

pub divides_some : (k n : ℕ) → 0 < n → Divides k n → 0 < k
divides_some zero n l h = let e : n ≡ 0 = eq-zero_of_zero-dvd (dvd_of_mod-eq-zero 0 h) in absurd (omega arith)
divides_some (suc k) n l h = omega arith

pub divides_le : (k n : ℕ) → 0 < n → Divides k n → k ≤ n
divides_le k n l h = le_of_dvd l (dvd_of_mod-eq-zero k h)

pub divides_trans : (k m n : ℕ) → Divides k m → Divides m n → Divides k n
divides_trans k m n h i = mod-eq-zero_of_dvd k (dvd_trans _ (dvd_of_mod-eq-zero k h) (dvd_of_mod-eq-zero m i))

-- ---- tests

pub is_same : (x y : ℕ) → (x == y) ≡ true → x ≡ y
is_same x y e = grind (arith, nat_tests)

same_is : (x y : ℕ) → x ≡ y → (x == y) ≡ true
same_is x y e = grind (arith, nat_tests)

each_of_test : (k : ℕ) (ns : List ℕ) → divides_each k ns ≡ true → DivideEach k ns
each_of_test k [] e = tt
each_of_test k (n ∷ ns) e = elim (cases_Bool (n % k == 0)) [
  | inl z ↦ (is_same (n % k) 0 z, each_of_test k ns (rw z at e))
  | inr z ↦ let f : false ≡ true = rw z at e in cc
]

test_of_each : (k : ℕ) (ns : List ℕ) → DivideEach k ns → divides_each k ns ≡ true
test_of_each k [] h = refl
test_of_each k (n ∷ ns) h = rw (same_is (n % k) 0 h.0) (test_of_each k ns h.1)

-- ---- the greatest divisor

one_divides : (ns : List ℕ) → DivideEach 1 ns
one_divides [] = tt
one_divides (n ∷ ns) = (mod-one n, one_divides ns)

upto_some : (n : ℕ) (ns : List ℕ) → 0 < greatest_divisor_up_to n ns
upto_some zero ns = omega arith
upto_some (suc n) ns = elim (cases_Bool (divides_each (suc n) ns)) [ inl z ↦ rw z (omega arith) | inr z ↦ rw z (upto_some n ns) ]

upto_divides : (n : ℕ) (ns : List ℕ) → DivideEach (greatest_divisor_up_to n ns) ns
upto_divides zero ns = one_divides ns
upto_divides (suc n) ns =
    elim (cases_Bool (divides_each (suc n) ns)) [ inl z ↦ rw z (each_of_test (suc n) ns z) | inr z ↦ rw z (upto_divides n ns) ]

last_or_less : (k n : ℕ) → k ≤ suc n → (k ≡ suc n) ⊎ (k ≤ n)
last_or_less k n l = grind arith

upto_most : (n : ℕ) (ns : List ℕ) (k : ℕ) → k ≤ n → 0 < k → DivideEach k ns → k ≤ greatest_divisor_up_to n ns
upto_most zero ns k l p h = absurd (omega arith)
upto_most (suc n) ns k l p h = elim (cases_Bool (divides_each (suc n) ns)) [
  | inl z ↦ rw z l
  | inr z ↦ elim (last_or_less k n l) [
    | inl e ↦ let t : divides_each (suc n) ns ≡ true = subst (λ m. divides_each m ns ≡ true) e (test_of_each k ns h) in absurd (cc)
    | inr m ↦ rw z (upto_most n ns k m p h)
  ]
]

pub divisor_some : (d : ℕ) (ns : List ℕ) → 0 < greatest_common_divisor d ns
unfolding greatest_common_divisor
divisor_some d ns = upto_some d (d ∷ ns)

pub divisor_divides : (d : ℕ) (ns : List ℕ) → Divides (greatest_common_divisor d ns) d × DivideEach (greatest_common_divisor d ns) ns
unfolding greatest_common_divisor
divisor_divides d ns = upto_divides d (d ∷ ns)

pub divisor_most : (d : ℕ) (ns : List ℕ) (k : ℕ) → 0 < d → Divides k d → DivideEach k ns → k ≤ greatest_common_divisor d ns
unfolding greatest_common_divisor
divisor_most d ns k p h i = upto_most d (d ∷ ns) k (divides_le k d p h) (divides_some k d p h) (h, i)

-- ---- what Euclid's algorithm finds

pub record IsDivisor (d : ℕ) (ns : List ℕ) (g : ℕ) : Type 0 where
  pub first : Divides g d
  pub each : DivideEach g ns
  pub greatest : (k : ℕ) → Divides k d → DivideEach k ns → Divides k g

pub divisor_is : (d : ℕ) (ns : List ℕ) (g : ℕ) → 0 < d → IsDivisor d ns g → g ≡ greatest_common_divisor d ns
divisor_is d ns g p h =
    let q : 0 < g = divides_some g d p h.first in
    le_antisymm (divisor_most d ns g p h.first h.each) (divides_le (greatest_common_divisor d ns) g q
    (h.greatest (greatest_common_divisor d ns) (divisor_divides d ns).0 (divisor_divides d ns).1))

pub divisor_end : (g : ℕ) → IsDivisor g [] g
divisor_end g = record { first = mod_self g; each = tt; greatest = λ k h i. h }

pub divisor_step : (g c m : ℕ) (ns : List ℕ) (h : ℕ) → IsGcd g c m → IsDivisor m ns h → IsDivisor g (c ∷ ns) h
divisor_step g c m ns h i x = record {
  first = mod-eq-zero_of_dvd h (dvd_trans _ (dvd_of_mod-eq-zero h x.first) i.0);
  each = (mod-eq-zero_of_dvd h (dvd_trans _ (dvd_of_mod-eq-zero h x.first) i.1), x.each);
  greatest = λ k p q. x.greatest k (mod-eq-zero_of_dvd k (i.2 k (dvd_of_mod-eq-zero k p) (dvd_of_mod-eq-zero k q.0))) q.1;
}

pub divisor_of_two : (d e m : ℕ) → 0 < d → IsGcd d e m → m ≡ greatest_common_divisor d (e ∷ [])
divisor_of_two d e m p i = divisor_is d (e ∷ []) m p (divisor_step d e m [] m i (divisor_end m))

-- ---- the least multiple

crossed : (d e g m n : ℕ) → m * g ≡ d → n * g ≡ e → d * n ≡ m * e
crossed d e g m n a b = rw (← a, ← b) (omega arith)

product_some : (m k : ℕ) → 0 < m * k → 0 < m
product_some zero k h = absurd (omega arith)
product_some (suc m) k h = omega arith

quotient_some : (k n : ℕ) → 0 < n → Divides k n → 0 < n / k
quotient_some k n p h = let e : n / k * k ≡ n = divides_exact k n h in product_some (n / k) k (omega arith)

both_some : (m n : ℕ) → 0 < m → 0 < n → 0 < m * n
both_some zero n p q = absurd (omega arith)
both_some (suc m) zero p q = absurd (omega arith)
both_some (suc m) (suc n) p q = omega arith

pub multiple_left : (d e : ℕ) → Divides d (least_common_multiple d e)
unfolding least_common_multiple
multiple_left d e = multiple_divides d (e / greatest_common_divisor d (e ∷ [])) (d * (e / greatest_common_divisor d (e ∷ []))) (omega arith)

pub multiple_right : (d e : ℕ) → Divides e (least_common_multiple d e)
unfolding least_common_multiple
multiple_right d e =
    let g : ℕ = greatest_common_divisor d (e ∷ []) in
    let h = divisor_divides d (e ∷ []) in
    let a : d / greatest_common_divisor d (e ∷ []) * greatest_common_divisor d (e ∷ []) ≡ d =
    divides_exact (greatest_common_divisor d (e ∷ [])) d h.0 in
    let b : e / greatest_common_divisor d (e ∷ []) * greatest_common_divisor d (e ∷ []) ≡ e =
    divides_exact (greatest_common_divisor d (e ∷ [])) e h.1.0 in
    multiple_divides e (d / greatest_common_divisor d (e ∷ [])) (d * (e / greatest_common_divisor d (e ∷ [])))
    (crossed d e (greatest_common_divisor d (e ∷ [])) (d / greatest_common_divisor d (e ∷ [])) (e / greatest_common_divisor d (e ∷ [])) a b)

pub multiple_some : (d e : ℕ) → 0 < d → 0 < e → 0 < least_common_multiple d e
unfolding least_common_multiple
multiple_some d e p q =
    let h = divisor_divides d (e ∷ []) in
    both_some d (e / greatest_common_divisor d (e ∷ [])) p (quotient_some (greatest_common_divisor d (e ∷ [])) e q h.1.0)

pub multiple_most : (d e : ℕ) → 0 < d → 0 < e → d ≤ least_common_multiple d e
multiple_most d e p q = divides_le d (least_common_multiple d e) (multiple_some d e p q) (multiple_left d e)

-- ---- quotients

pub raised_some : (k n : ℕ) → 0 < n → Divides k n → 0 < n / k
raised_some k n p h = quotient_some k n p h
