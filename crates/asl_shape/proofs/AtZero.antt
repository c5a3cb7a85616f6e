-- The value of the terms of a width where each atom is 0 is the number in the last one.
use Rattle.std.proofs.Common.{◌≡◌, ◌≢◌, ℕ, zero, suc, ◌-◌, ◌^◌, ◌≤◌, List, [], ◌∷◌, length, Some, refl, sym, ap, ◌∙◌, arith}
use Rattle.std.specs.Prelude.{ℤ, pos, ◌+ℤ◌, ◌*ℤ◌, slice_get, unsigned_abs}
use Rattle.std.proofs.Math.IntN.{zero-*ℤ, *ℤ_comm, +ℤ_idl}
use Rattle.std.proofs.lemmas.Int.{ints}
use Rattle.std.specs.declared.cmp.Ordering.TheVariants.{Less}
use Rattle.asl_poly.specs.Terms.{Summand, Polynomial, product, value, order, Sorted}
use Rattle.asl_poly.specs.Limits.{weight}
use Rattle.asl_poly.specs.Poly.{IsPolynomial}
use Rattle.asl_poly.proofs.Ring.{mul-one}
use Rattle.asl_shape.specs.private.Numbers.{last_number}

abbrev pub zeros : ℕ → ℤ
zeros n = pos 0

-- nothing stands below the monomial without factors
none_below : (xs : List ℕ) → order xs [] ≡ Less → ⊥
none_below [] h = cc
none_below (x ∷ xs) h = cc

gone : (c z : ℤ) → c *ℤ (pos 0 *ℤ z) ≡ pos 0
gone c z = ap (λ y. c *ℤ y) (zero-*ℤ z) ∙ *ℤ_comm c (pos 0) ∙ zero-*ℤ c

factored : (c : ℤ) (x : ℕ) (xs : List ℕ) (v : ℤ) → c *ℤ product zeros (x ∷ xs) +ℤ v ≡ v
factored c x xs v = ap (λ y. y +ℤ v) (gone c (product zeros xs)) ∙ +ℤ_idl v

alone : (c : ℤ) (xs : List ℕ) → c *ℤ product zeros xs +ℤ pos 0 ≡ last_number c xs
alone c [] = ap (λ y. y +ℤ pos 0) (mul-one c) ∙ omega (arith, ints)
alone c (x ∷ xs) = factored c x xs (pos 0)

last : (ts : List Summand) (n : ℕ) (t : Summand) → Sorted ts → length ts ≡ suc n → slice_get ts n ≡ Some t → value zeros ts ≡ last_number t.coefficient t.factors
last [] n t s h e = absurd (omega (arith, h))
last (u ∷ []) zero t s h e = let f : u ≡ t = cc in alone u.coefficient u.factors ∙ ap (λ w. last_number w.coefficient w.factors) f
last (u ∷ []) (suc n) t s h e = absurd (omega (arith, h))
last (u ∷ v ∷ ts) zero t s h e = absurd (omega (arith, h))
last (u ∷ v ∷ ts) (suc n) t s h e = by u.factors refl (last (v ∷ ts) n t s.2 (omega (arith, h)) e)
  where
    by : (fs : List ℕ) → u.factors ≡ fs → value zeros (v ∷ ts) ≡ last_number t.coefficient t.factors → value zeros (u ∷ v ∷ ts) ≡ last_number t.coefficient t.factors
    by [] k rest = absurd (none_below v.factors (ap (order v.factors) (sym k) ∙ s.1.0))
    by (x ∷ xs) k rest = ap (λ fs. u.coefficient *ℤ product zeros fs +ℤ value zeros (v ∷ ts)) k ∙ factored u.coefficient x xs (value zeros (v ∷ ts)) ∙ rest

pub last_is : (p : Polynomial) (n : ℕ) (c : ℤ) (xs : List ℕ) → IsPolynomial p → n ≡ length p.terms → n ≢ 0 → slice_get p.terms (n - 1) ≡ Some (record { coefficient = c; factors = xs }) → last_number c xs ≡ value zeros p.terms
last_is p n c xs is e h k =
    let up : length p.terms ≡ suc (n - 1) = omega arith in
    sym (last p.terms (n - 1) (record { coefficient = c; factors = xs }) is.map.sorted up k)

no_terms : (ts : List Summand) → length ts ≡ 0 → pos 0 ≡ value zeros ts
no_terms [] h = refl
no_terms (t ∷ ts) h = absurd (omega (arith, h))

pub none_is : (p : Polynomial) (n : ℕ) → n ≡ length p.terms → n ≡ 0 → pos 0 ≡ value zeros p.terms
none_is p n e h = no_terms p.terms (omega arith)

-- ---- its weight

light_term : (ts : List Summand) (n : ℕ) (t : Summand) → slice_get ts n ≡ Some t → unsigned_abs t.coefficient ≤ weight ts
light_term [] n t e = absurd cc
light_term (u ∷ ts) zero t e = let f : u ≡ t = cc in omega (arith, ap (λ (w : Summand). unsigned_abs w.coefficient) f)
light_term (u ∷ ts) (suc n) t e = omega (arith, light_term ts n t e)

light_number : (c : ℤ) (xs : List ℕ) → unsigned_abs (last_number c xs) ≤ unsigned_abs c
light_number c [] = omega arith
light_number c (x ∷ xs) = omega arith

pub light_is : (p : Polynomial) (n : ℕ) (c z : ℤ) (xs : List ℕ) → IsPolynomial p → slice_get p.terms n ≡ Some (record { coefficient = c; factors = xs }) → z ≡ last_number c xs → unsigned_abs z ≤ 2 ^ 62
light_is p n c z xs is k e =
    let a : unsigned_abs z ≡ unsigned_abs (last_number c xs) = ap unsigned_abs e in
    omega (arith, a, light_number c xs, light_term p.terms n (record { coefficient = c; factors = xs }) k, is.map.light)
