-- The results of `add`, `sub` and `mul`: within the limits, with the value that the clauses say; and when a polynomial is constant.
use Rattle.std.proofs.Common.{inl, inr, ◌≡◌, ◌≢◌, ℕ, ◌+◌, ◌*◌, ◌/◌, ◌<◌, ◌≤◌, ◌^◌, zero, suc, List, [], ◌∷◌, length, true, false, ◌==◌, refl, sym, subst, ◌∙◌, ap, arith}
use Rattle.std.specs.Prelude.{unsigned_abs, Option, Some, None, IfSome, MatchOption}
use Rattle.std.proofs.Math.IntN.{ℤ, pos, negsuc, ◌+ℤ◌, ◌-ℤ◌, ◌*ℤ◌, neg_ℤ, +ℤ_idl, *ℤ_comm, pos-*ℤ-pos}
use Rattle.std.proofs.Math.Nat.{mod_self, div-le_self, mul-le-mul_left}
use Rattle.std.proofs.lemmas.Int.{ints, unsigned_abs-mul}
use Rattle.std.proofs.lemmas.Bool.Decides.{nat_tests}
use Rattle.std.proofs.lemmas.Bool.{cases_Bool}
use Rattle.asl_poly.specs.Terms.{Summand, IsTerm, Sorted, value}
use Rattle.asl_poly.specs.Limits.{IsMap, weight, degree, atoms_of_both, note_terms}
use Rattle.asl_poly.specs.Operations.{constant_of, constant_if, constant_term, gather, scaled, constant_term, multiply, sum_terms, difference_terms, product_terms, is_zero, constant_terms}
use Rattle.asl_poly.specs.Terms.{Polynomial}
use Rattle.asl_poly.specs.Denominators.{DivideEach, raised, sizes, lowest}
use Rattle.asl_poly.specs.Poly.{IsPolynomial, SumFits, ProductFits, sum_denominator, HasWidth, constant_value}
use Rattle.asl_poly.proofs.Ring.{one-mul, mul-one, neg-mul, add-mul, mul_assoc, swap_last}
use Rattle.asl_poly.proofs.Divisors.{divides_exact, multiple_divides, multiple_left, multiple_right, multiple_some, raised_some}
use Rattle.asl_poly.proofs.LowestTerms.{value_multiples, weight_multiples, noted_multiples, map_multiples, lowest_same}
use Rattle.asl_poly.proofs.Values.{value-gather, value-scaled, value-multiply, zero_is}
use Rattle.asl_poly.proofs.NormalForm.{AllTerms, all_sorted, sorted_gather, times_term, weight_gather, weight_scaled, weight_multiply, not_zero}
use Rattle.asl_poly.proofs.Atoms.{FactorsIn, terms_have, in_keep, gather_in, scaled_in, multiply_in, atoms_few}
use Rattle.asl_poly.proofs.DistinctValues.{agree, at, same_term}

scaled_terms : (s : Summand) (ts : List Summand) → IsTerm s → AllTerms ts → length s.factors + degree ts ≤ 4 → AllTerms (scaled s ts)
scaled_terms s [] h k l = tt
scaled_terms s (t ∷ ts) h k l = (times_term s t h k.0 (omega arith), scaled_terms s ts h k.1 (omega arith))

pub degree_sorted : (ts : List Summand) → Sorted ts → degree ts ≤ 4
degree_sorted [] h = omega arith
degree_sorted (t ∷ ts) h = omega (arith, h.0.degree, degree_sorted ts h.2)

pub degree_map : (p : List Summand) → IsMap p → degree p ≤ 4
degree_map p h = degree_sorted p h.sorted

unit_term : (c : ℤ) → c ≢ pos 0 → IsTerm (constant_term c)
unit_term c n = record { counts = n; falls = tt; degree = omega arith }

pub multiply_sorted : (acc p q : List Summand) → Sorted acc → AllTerms p → AllTerms q → degree p + degree q ≤ 4 → Sorted (multiply acc p q)
multiply_sorted acc [] q h k l d = h
multiply_sorted acc (s ∷ p) q h k l d = multiply_sorted (gather acc (scaled s q)) p q (sorted_gather acc (scaled s q) h (scaled_terms s q k.0 l (omega arith))) k.1 l (omega arith)

combined_map : (c : ℤ) (p q : List Summand) → c ≢ pos 0 → unsigned_abs c ≡ 1 → IsMap p → IsMap q → weight p + weight q ≤ 2 ^ 62
    → length (atoms_of_both p q) ≤ 8 → IsMap (gather p (scaled (constant_term c) q))
combined_map c p q n one hp hq light few =
    let w : weight (scaled (constant_term c) q) ≡ weight q = weight_scaled (constant_term c) q ∙ ap (λ k. k * weight q) one ∙ (omega arith) in
    let i : FactorsIn (atoms_of_both p q) (gather p (scaled (constant_term c) q)) =
    gather_in (atoms_of_both p q) p (scaled (constant_term c) q) (in_keep (note_terms [] p) q p (terms_have [] p)) (scaled_in (atoms_of_both p q) (constant_term c) q tt (terms_have (note_terms [] p) q)) in
    record {
      sorted = sorted_gather p (scaled (constant_term c) q) hp.sorted (scaled_terms (constant_term c) q (unit_term c n) (all_sorted q hq.sorted) (omega (arith, degree_map q hq)));
      light = omega (arith, weight_gather p (scaled (constant_term c) q), light);
      few = omega (arith, atoms_few (atoms_of_both p q) (gather p (scaled (constant_term c) q)) i, few);
    }

pub sub-mul : (a b c : ℤ) → (a -ℤ b) *ℤ c ≡ a *ℤ c -ℤ b *ℤ c
sub-mul a b c = rw (add-mul a (neg_ℤ b) c, neg-mul b c) refl

-- both polynomials over their common denominator
pub left_exact : (p q : Polynomial) → sum_denominator p q / p.denominator * p.denominator ≡ sum_denominator p q
left_exact p q = divides_exact p.denominator (sum_denominator p q) (multiple_left p.denominator q.denominator)

pub right_exact : (p q : Polynomial) → sum_denominator p q / q.denominator * q.denominator ≡ sum_denominator p q
right_exact p q = divides_exact q.denominator (sum_denominator p q) (multiple_right p.denominator q.denominator)

module _ (p q : Polynomial) (hp : IsPolynomial p) (hq : IsPolynomial q) where
  pub common_some : 0 < sum_denominator p q
  common_some = multiple_some p.denominator q.denominator hp.lowest.positive hq.lowest.positive

  left_some : 0 < sum_denominator p q / p.denominator
  left_some = raised_some p.denominator (sum_denominator p q) common_some (multiple_left p.denominator q.denominator)

  right_some : 0 < sum_denominator p q / q.denominator
  right_some = raised_some q.denominator (sum_denominator p q) common_some (multiple_right p.denominator q.denominator)

  pub raised_weights : SumFits p q → weight (raised (sum_denominator p q) p) + weight (raised (sum_denominator p q) q) ≤ 2 ^ 62
  raised_weights f =
      omega (
        arith,
        weight_multiples (sum_denominator p q / p.denominator) p.terms,
        weight_multiples (sum_denominator p q / q.denominator) q.terms,
        f.light,
      )

  pub left_map : SumFits p q → IsMap (raised (sum_denominator p q) p)
  left_map f =
      map_multiples (sum_denominator p q / p.denominator) p.terms left_some hp.map
      (omega (arith, weight_multiples (sum_denominator p q / p.denominator) p.terms, raised_weights f))

  pub right_map : SumFits p q → IsMap (raised (sum_denominator p q) q)
  right_map f =
      map_multiples (sum_denominator p q / q.denominator) q.terms right_some hq.map
      (omega (arith, weight_multiples (sum_denominator p q / q.denominator) q.terms, raised_weights f))

  both_noted : atoms_of_both (raised (sum_denominator p q) p) (raised (sum_denominator p q) q) ≡ atoms_of_both p.terms q.terms
  both_noted =
      noted_multiples (sum_denominator p q / q.denominator) (note_terms [] (raised (sum_denominator p q) p)) q.terms
      ∙ ap (λ seen. note_terms seen q.terms) (noted_multiples (sum_denominator p q / p.denominator) [] p.terms)

  pub sum_map : SumFits p q → IsMap (sum_terms (raised (sum_denominator p q) p) (raised (sum_denominator p q) q))
  sum_map f =
      combined_map (pos 1) (raised (sum_denominator p q) p) (raised (sum_denominator p q) q) (λ z. cc) refl (left_map f) (right_map f)
      (raised_weights f) (omega (arith, ap length both_noted, f.few))

  pub difference_map : SumFits p q → IsMap (difference_terms (raised (sum_denominator p q) p) (raised (sum_denominator p q) q))
  difference_map f =
      combined_map (negsuc 0) (raised (sum_denominator p q) p) (raised (sum_denominator p q) q) (λ z. cc) refl (left_map f) (right_map f)
      (raised_weights f) (omega (arith, ap length both_noted, f.few))

pub product_map : (p q : Polynomial) → IsMap p.terms → IsMap q.terms → ProductFits p q → IsMap (product_terms p.terms q.terms)
product_map p q hp hq f =
    let i : FactorsIn (atoms_of_both p.terms q.terms) (multiply [] p.terms q.terms) =
    multiply_in (atoms_of_both p.terms q.terms) [] p.terms q.terms tt
    (in_keep (note_terms [] p.terms) q.terms p.terms (terms_have [] p.terms)) (terms_have (note_terms [] p.terms) q.terms) in
    record {
      sorted = multiply_sorted [] p.terms q.terms tt (all_sorted p.terms hp.sorted) (all_sorted q.terms hq.sorted) f.low;
      light = omega (arith, weight_multiply [] p.terms q.terms, f.light);
      few = omega (arith, atoms_few (atoms_of_both p.terms q.terms) (multiply [] p.terms q.terms) i, f.few);
    }

-- ---- values

pub value_sum : (a : ℕ → ℤ) (p q r : List Summand) → r ≡ sum_terms p q → value a r ≡ value a p +ℤ value a q
value_sum a p q r e =
    rw (e, value-gather a p (scaled (constant_term (pos 1)) q), value-scaled a (constant_term (pos 1)) q, one-mul (pos 1), one-mul (value a q)) refl

minus_one : (x y : ℤ) → x +ℤ (negsuc 0 *ℤ pos 1) *ℤ y ≡ x -ℤ y
minus_one x y = let m : negsuc 0 *ℤ y ≡ neg_ℤ (pos 1 *ℤ y) = neg-mul (pos 1) y in let n : pos 1 *ℤ y ≡ y = one-mul y in rw (m, n) refl

pub value_difference : (a : ℕ → ℤ) (p q r : List Summand) → r ≡ difference_terms p q → value a r ≡ value a p -ℤ value a q
value_difference a p q r e =
    rw (e, value-gather a p (scaled (constant_term (negsuc 0)) q), value-scaled a (constant_term (negsuc 0)) q) (minus_one (value a p) (value a q))

pub value_product : (a : ℕ → ℤ) (p q r : List Summand) → r ≡ product_terms p q → value a r ≡ value a p *ℤ value a q
value_product a p q r e = rw (e, value-multiply a [] p q, +ℤ_idl (value a p *ℤ value a q)) refl

-- ---- values over denominators

pub cross : (k d n : ℕ) (v e : ℤ) → k * d ≡ n → (pos k *ℤ v) *ℤ (pos d *ℤ e) ≡ (v *ℤ e) *ℤ pos n
cross k d n v e h =
    let a : (pos k *ℤ v) *ℤ (pos d *ℤ e) ≡ ((pos k *ℤ v) *ℤ pos d) *ℤ e = sym (mul_assoc (pos k *ℤ v) (pos d) e) in
    let b : (pos k *ℤ v) *ℤ pos d ≡ (pos k *ℤ pos d) *ℤ v = swap_last (pos k) v (pos d) in
    let c : pos k *ℤ pos d ≡ pos n = pos-*ℤ-pos k d ∙ ap pos h in
    let f : (pos k *ℤ v) *ℤ pos d ≡ v *ℤ pos n = b ∙ ap (λ z. z *ℤ v) c ∙ *ℤ_comm (pos n) v in
    a ∙ ap (λ z. z *ℤ e) f ∙ swap_last v (pos n) e

module _ (a : ℕ → ℤ) (p q : Polynomial) (hp : IsPolynomial p) (hq : IsPolynomial q) where
  left_cross : (pos (sum_denominator p q / p.denominator) *ℤ value a p.terms) *ℤ pos (p.denominator * q.denominator)
      ≡ (value a p.terms *ℤ pos q.denominator) *ℤ pos (sum_denominator p q)
  left_cross =
      ap (λ z. (pos (sum_denominator p q / p.denominator) *ℤ value a p.terms) *ℤ z) (sym (pos-*ℤ-pos p.denominator q.denominator))
      ∙ cross (sum_denominator p q / p.denominator) p.denominator (sum_denominator p q) (value a p.terms) (pos q.denominator)
      (left_exact p q)

  right_cross : (pos (sum_denominator p q / q.denominator) *ℤ value a q.terms) *ℤ pos (p.denominator * q.denominator)
      ≡ (value a q.terms *ℤ pos p.denominator) *ℤ pos (sum_denominator p q)
  right_cross =
      ap (λ z. (pos (sum_denominator p q / q.denominator) *ℤ value a q.terms) *ℤ z)
      (sym (pos-*ℤ-pos p.denominator q.denominator) ∙ *ℤ_comm (pos p.denominator) (pos q.denominator))
      ∙ cross (sum_denominator p q / q.denominator) q.denominator (sum_denominator p q) (value a q.terms) (pos p.denominator)
      (right_exact p q)

  pub sum_value : value a (lowest (sum_terms (raised (sum_denominator p q) p) (raised (sum_denominator p q) q)) (sum_denominator p q)).terms
      *ℤ pos (p.denominator * q.denominator)
      ≡ (value a p.terms *ℤ pos q.denominator +ℤ value a q.terms *ℤ pos p.denominator) *ℤ pos
      (lowest (sum_terms (raised (sum_denominator p q) p) (raised (sum_denominator p q) q)) (sum_denominator p q)).denominator
  sum_value =
      let v : value a (sum_terms (raised (sum_denominator p q) p) (raised (sum_denominator p q) q))
      ≡ pos (sum_denominator p q / p.denominator) *ℤ value a p.terms +ℤ pos (sum_denominator p q / q.denominator) *ℤ value a q.terms =
      value_sum a (raised (sum_denominator p q) p) (raised (sum_denominator p q) q)
      (sum_terms (raised (sum_denominator p q) p) (raised (sum_denominator p q) q)) refl
      ∙ rw (
        value_multiples a (sum_denominator p q / p.denominator) p.terms,
        value_multiples a (sum_denominator p q / q.denominator) q.terms,
      ) refl in
      lowest_same a (sum_terms (raised (sum_denominator p q) p) (raised (sum_denominator p q) q)) (sum_denominator p q)
      (pos (p.denominator * q.denominator))
      (value a p.terms *ℤ pos q.denominator +ℤ value a q.terms *ℤ pos p.denominator) (common_some p q hp hq)
      (rw (
        v,
        add-mul (pos (sum_denominator p q / p.denominator) *ℤ value a p.terms)
            (pos (sum_denominator p q / q.denominator) *ℤ value a q.terms)
            (pos (p.denominator * q.denominator)),
        left_cross,
        right_cross,
        add-mul (value a p.terms *ℤ pos q.denominator)
            (value a q.terms *ℤ pos p.denominator) (pos (sum_denominator p q)),
      ) refl)

  pub difference_value : value a
      (lowest (difference_terms (raised (sum_denominator p q) p) (raised (sum_denominator p q) q)) (sum_denominator p q)).terms
      *ℤ pos (p.denominator * q.denominator)
      ≡ (value a p.terms *ℤ pos q.denominator -ℤ value a q.terms *ℤ pos p.denominator) *ℤ pos
      (lowest (difference_terms (raised (sum_denominator p q) p) (raised (sum_denominator p q) q)) (sum_denominator p q)).denominator
  difference_value =
      let v : value a (difference_terms (raised (sum_denominator p q) p) (raised (sum_denominator p q) q))
      ≡ pos (sum_denominator p q / p.denominator) *ℤ value a p.terms -ℤ pos (sum_denominator p q / q.denominator) *ℤ value a q.terms =
      value_difference a (raised (sum_denominator p q) p) (raised (sum_denominator p q) q)
      (difference_terms (raised (sum_denominator p q) p) (raised (sum_denominator p q) q)) refl
      ∙ rw (
        value_multiples a (sum_denominator p q / p.denominator) p.terms,
        value_multiples a (sum_denominator p q / q.denominator) q.terms,
      ) refl in
      lowest_same a (difference_terms (raised (sum_denominator p q) p) (raised (sum_denominator p q) q)) (sum_denominator p q)
      (pos (p.denominator * q.denominator))
      (value a p.terms *ℤ pos q.denominator -ℤ value a q.terms *ℤ pos p.denominator) (common_some p q hp hq)
      (rw (
        v,
        sub-mul (pos (sum_denominator p q / p.denominator) *ℤ value a p.terms)
            (pos (sum_denominator p q / q.denominator) *ℤ value a q.terms)
            (pos (p.denominator * q.denominator)),
        left_cross,
        right_cross,
        sub-mul (value a p.terms *ℤ pos q.denominator)
            (value a q.terms *ℤ pos p.denominator) (pos (sum_denominator p q)),
      ) refl)

pub some_product : (m n : ℕ) → 0 < m → 0 < n → 0 < m * n
some_product zero n p q = absurd (omega arith)
some_product (suc m) zero p q = absurd (omega arith)
some_product (suc m) (suc n) p q = omega arith

pub product_some : (p q : Polynomial) → IsPolynomial p → IsPolynomial q → 0 < p.denominator * q.denominator
product_some p q hp hq = some_product p.denominator q.denominator hp.lowest.positive hq.lowest.positive

pub product_value : (a : ℕ → ℤ) (p q : Polynomial) → IsPolynomial p → IsPolynomial q
    → value a (lowest (product_terms p.terms q.terms) (p.denominator * q.denominator)).terms *ℤ pos (p.denominator * q.denominator)
    ≡ (value a p.terms *ℤ value a q.terms) *ℤ pos (lowest (product_terms p.terms q.terms) (p.denominator * q.denominator)).denominator
product_value a p q hp hq =
    lowest_same a (product_terms p.terms q.terms) (p.denominator * q.denominator) (pos (p.denominator * q.denominator))
    (value a p.terms *ℤ value a q.terms) (product_some p q hp hq)
    (ap (λ z. z *ℤ pos (p.denominator * q.denominator)) (value_product a p.terms q.terms (product_terms p.terms q.terms) refl))

pub quotient_value : (a : ℕ → ℤ) (p : Polynomial) (k : ℕ) → IsPolynomial p → 0 < k
    → value a (lowest p.terms (p.denominator * k)).terms *ℤ pos (p.denominator * k) ≡ value a p.terms *ℤ pos
    (lowest p.terms (p.denominator * k)).denominator
quotient_value a p k hp l =
    lowest_same a p.terms (p.denominator * k) (pos (p.denominator * k)) (value a p.terms)
    (some_product p.denominator k hp.lowest.positive l) refl

-- ---- sameness

pub same_map : (p q : List Summand) → IsMap p → IsMap q → ((a : ℕ → ℤ) → value a p ≡ value a q) → p ≡ q
same_map p q hp hq h = agree (weight p + weight q + 1) p q hp.sorted hq.sorted (omega arith) (h (at (weight p + weight q + 1)))

pub sorted_constant : (c : ℤ) → Sorted (constant_terms c)
sorted_constant c = elim (cases_Bool (is_zero c)) [ inl z ↦ rw z tt | inr z ↦ rw z (unit_term c (not_zero c z), tt, tt) ]

pub value_constant : (a : ℕ → ℤ) (c : ℤ) → value a (constant_terms c) ≡ c
value_constant a c = elim (cases_Bool (is_zero c)) [ inl z ↦ rw z (sym (zero_is c z)) | inr z ↦ rw z (omega (arith, ints, mul-one c)) ]

-- a polynomial with one value is the constant's
pub constant_is : (p : List Summand) (c : ℤ) → IsMap p → ((a : ℕ → ℤ) → value a p ≡ c) → p ≡ constant_terms c
constant_is p c hp h =
    agree (weight p + weight (constant_terms c) + 1) p (constant_terms c) hp.sorted (sorted_constant c) (omega arith)
    (h (at (weight p + weight (constant_terms c) + 1)) ∙ sym (value_constant (at (weight p + weight (constant_terms c) + 1)) c))

-- ---- terms without atoms

found_with : (t : Summand) (ts : List Summand) (ms : List ℕ) (c : ℤ) → t.factors ≡ ms → IsTerm t → constant_if ms ts t.coefficient ≡ Some c → t ∷ ts ≡ constant_terms c
found_with t [] [] c f h e = elim (cases_Bool (is_zero c)) [
  | inl z ↦ let g : t.coefficient ≡ c = cc in absurd (h.counts (g ∙ zero_is c z))
  | inr z ↦ let g : t.coefficient ≡ c = cc in rw z (ap (λ u. u ∷ []) (same_term t (constant_term c) g f))
]
found_with t (u ∷ us) [] c f h e = cc
found_with t ts (x ∷ xs) c f h e = cc

found_constant : (ts : List Summand) (c : ℤ) → Sorted ts → constant_of ts ≡ Some c → ts ≡ constant_terms c
found_constant [] c h e = let f : pos 0 ≡ c = cc in rw (← f) refl
found_constant (t ∷ ts) c h e = found_with t ts t.factors c refl h.0 e

constant_back : (c : ℤ) → constant_of (constant_terms c) ≡ Some c
constant_back c = elim (cases_Bool (is_zero c)) [ inl z ↦ rw (z, zero_is c z) refl | inr z ↦ rw z refl ]

-- what `as_constant` answers, of what it finds in the terms
pub one_value : (p : List Summand) (r : Option ℤ) → IsMap p → r ≡ constant_of p
    → MatchOption r ((c : ℤ) → ((a : ℕ → ℤ) → value a p ≡ c) → ⊥) (λ c. (a : ℕ → ℤ) → value a p ≡ c)
one_value p None h e = λ c v. let f : constant_of p ≡ Some c = ap constant_of (constant_is p c h v) ∙ constant_back c in cc
one_value p (Some c) h e = λ a. ap (value a) (found_constant p c h.sorted (sym e)) ∙ value_constant a c

light_with : (ms : List ℕ) (ts : List Summand) (c d : ℤ) (n : ℕ) → unsigned_abs c ≤ n → constant_if ms ts c ≡ Some d → unsigned_abs d ≤ n
light_with [] [] c d n l e = let f : c ≡ d = cc in rw (← f) l
light_with [] (t ∷ ts) c d n l e = absurd cc
light_with (x ∷ xs) ts c d n l e = absurd cc

number_light : (ts : List Summand) (c : ℤ) → constant_of ts ≡ Some c → unsigned_abs c ≤ weight ts
number_light [] c e = let f : pos 0 ≡ c = cc in rw (← f) (omega arith)
number_light (t ∷ ts) c e = light_with t.factors ts t.coefficient c (weight (t ∷ ts)) (omega arith) e

-- what `number` answers is within the greatest weight
pub constant_light : (ts : List Summand) (r : Option ℤ) → IsMap ts → r ≡ constant_of ts → IfSome r (λ c. unsigned_abs c ≤ 2 ^ 62)
constant_light ts None h e = tt
constant_light ts (Some c) h e = omega (arith, number_light ts c (sym e), h.light)

one_denominator : (d : ℕ) → (d == 1) ≡ true → d ≡ 1
one_denominator d e = grind (arith, nat_tests)

sizes_constant : (c : ℤ) (d : ℕ) → DivideEach d (sizes (constant_terms (c *ℤ pos d)))
sizes_constant c d = elim (cases_Bool (is_zero (c *ℤ pos d))) [
  | inl z ↦ rw z tt
  | inr z ↦ rw z (multiple_divides d (unsigned_abs c) (unsigned_abs (c *ℤ pos d)) (unsigned_abs-mul c (pos d)), tt)
]

-- what is a whole number everywhere has the denominator 1
whole_number : (p : Polynomial) (c : ℤ) → IsPolynomial p → ((a : ℕ → ℤ) → HasWidth p a c) → p.denominator ≡ 1
whole_number p c h v =
    let e : p.terms ≡ constant_terms (c *ℤ pos p.denominator) = constant_is p.terms (c *ℤ pos p.denominator) h.map v in
    h.lowest.lowest p.denominator (mod_self p.denominator) (rw e (sizes_constant c p.denominator))

not_one : (d : ℕ) → (d == 1) ≡ false → d ≡ 1 → ⊥
not_one d e f = let g : (d == 1) ≡ true = ap (λ n. n == 1) f in cc

constant_number : (p : Polynomial) (r : Option ℤ) → IsPolynomial p → p.denominator ≡ 1
    → MatchOption r ((c : ℤ) → ((a : ℕ → ℤ) → value a p.terms ≡ c) → ⊥) (λ c. (a : ℕ → ℤ) → value a p.terms ≡ c)
    → MatchOption r ((c : ℤ) → ((a : ℕ → ℤ) → HasWidth p a c) → ⊥) (λ c. (a : ℕ → ℤ) → HasWidth p a c)
constant_number p None h e m = λ c v. m c (λ a. v a ∙ ap (λ d. c *ℤ pos d) e ∙ mul-one c)
constant_number p (Some c) h e m = λ a. m a ∙ sym (mul-one c) ∙ ap (λ d. c *ℤ pos d) (sym e)

-- what `as_constant` answers
pub one_number : (p : Polynomial) → IsPolynomial p
    → MatchOption (constant_value p) ((c : ℤ) → ((a : ℕ → ℤ) → HasWidth p a c) → ⊥) (λ c. (a : ℕ → ℤ) → HasWidth p a c)
unfolding constant_value
one_number p h = elim (cases_Bool (p.denominator == 1)) [
  | inl z ↦
      rw z (constant_number p (constant_of p.terms) h (one_denominator p.denominator z)
      (one_value p.terms (constant_of p.terms) h.map refl))
  | inr z ↦ rw z (λ c v. not_one p.denominator z (whole_number p c h v))
]

pub constant_then : (p : Polynomial) (r : Option ℤ) → p.denominator ≡ 1 → r ≡ constant_of p.terms → r ≡ constant_value p
unfolding constant_value
constant_then p r e h = let z : (p.denominator == 1) ≡ true = ap (λ n. n == 1) e in rw z h

pub constant_else : (p : Polynomial) → (p.denominator ≡ 1 → ⊥) → None ≡ constant_value p
unfolding constant_value
constant_else p n = elim (cases_Bool (p.denominator == 1)) [ inl z ↦ absurd (n (one_denominator p.denominator z)) | inr z ↦ rw z refl ]

pub one_answer : (p : Polynomial) (r : Option ℤ) → IsPolynomial p → r ≡ constant_value p
    → MatchOption r ((c : ℤ) → ((a : ℕ → ℤ) → HasWidth p a c) → ⊥) (λ c. (a : ℕ → ℤ) → HasWidth p a c)
one_answer p r h e =
    subst (λ (o : Option ℤ). MatchOption o ((c : ℤ) → ((a : ℕ → ℤ) → HasWidth p a c) → ⊥) (λ c. (a : ℕ → ℤ) → HasWidth p a c)) (sym e)
    (one_number p h)

-- ---- for the code

pub lacks_few : (n d : ℕ) → n ≤ 2 ^ 16 → n / d ≤ 2 ^ 16
lacks_few n d l = omega (arith, div-le_self n d)

pub more_times : (m n : ℕ) → 0 < n → m * 1 ≤ m * n
more_times m n l = mul-le-mul_left m l
