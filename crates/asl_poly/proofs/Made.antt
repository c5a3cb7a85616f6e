-- What the calls of a polynomial make of the terms that they find: within the limits, the map of the definition, and its value.
use Rattle.std.proofs.Common.{◌≡◌, ℕ, ◌+◌, ◌*◌, ◌/◌, ◌<◌, ◌≤◌, ◌^◌, List, [], refl, sym, subst, ◌∙◌, ap, arith}
use Rattle.std.proofs.Math.Nat.{mul-le-mul_right}
use Rattle.asl_poly.specs.Terms.{Polynomial, Summand, over}
use Rattle.asl_poly.specs.Limits.{IsMap, weight, degree}
use Rattle.asl_poly.specs.Operations.{sum_terms, difference_terms, product_terms}
use Rattle.asl_poly.specs.Denominators.{greatest_common_divisor, divided, sizes, raised, lowest}
use Rattle.asl_poly.specs.Substitute.{replaced, with_common_denominator, raised_terms, common_denominator, AllFine, AllMaps, ReplacedFits}
use Rattle.asl_poly.specs.Poly.{IsPolynomial, IsSum, IsDifference, IsProduct, IsQuotient, IsSubstituted, SumFits, ProductFits, QuotientFits, SubstituteFits, sum_denominator, sum_map, difference_map, product_map, quotient_map, substitute_map}
use Rattle.asl_poly.proofs.LowestTerms.{lowest_polynomial}
use Rattle.asl_poly.proofs.Maps as maps
use Rattle.asl_poly.proofs.Maps.{common_some, raised_weights}
use Rattle.asl_poly.proofs.Substitution.{substituted_map, substituted_value, raised_sorted, all_divide, common_denominator_some, degree_raised, weight_raised}

-- ---- lowest terms

pub lowest_made : (ts us : List Summand) (d k e : ℕ) → k ≡ greatest_common_divisor d (sizes ts) → us ≡ divided k ts → e ≡ d / k
    → over us e ≡ lowest ts d
unfolding lowest
lowest_made ts us d k e f g h = rw (g, h, f) refl

pub lowest_within : (ts us : List Summand) (d k e : ℕ) → IsMap ts → 0 < d → d ≤ 2 ^ 16 → k ≡ greatest_common_divisor d (sizes ts)
    → us ≡ divided k ts → e ≡ d / k → IsPolynomial (over us e)
lowest_within ts us d k e m p l f g h = subst IsPolynomial (sym (lowest_made ts us d k e f g h)) (lowest_polynomial ts d m p l)

-- ---- sums and differences

module _ (p q : Polynomial) (hp : IsPolynomial p) (hq : IsPolynomial q) (f : SumFits p q) (n : ℕ) (is : n ≡ sum_denominator p q) where
  pub sum_some : 0 < n
  sum_some = rw is (common_some p q hp hq)

  pub sum_few : n ≤ 2 ^ 16
  sum_few = rw is f.fine

  pub sum_light : (ts us : List Summand) → ts ≡ raised n p → us ≡ raised n q → weight ts + weight us ≤ 2 ^ 62
  sum_light ts us e g = rw (e, g, is) (raised_weights p q hp hq f)

  pub sum_map_is : (ts us vs : List Summand) → ts ≡ raised n p → us ≡ raised n q → vs ≡ sum_terms ts us → IsMap vs
  sum_map_is ts us vs e g h = rw (h, e, g, is) (maps.sum_map p q hp hq f)

  pub difference_map_is : (ts us vs : List Summand) → ts ≡ raised n p → us ≡ raised n q → vs ≡ difference_terms ts us → IsMap vs
  difference_map_is ts us vs e g h = rw (h, e, g, is) (maps.difference_map p q hp hq f)

  pub sum_gives : (ts us vs : List Summand) (r : Polynomial) → ts ≡ raised n p → us ≡ raised n q → vs ≡ sum_terms ts us → r ≡ lowest vs n
      → r ≡ sum_map p q
  unfolding sum_map
  sum_gives ts us vs r e g h k = rw (k, h, e, g, is) refl

  pub difference_gives : (ts us vs : List Summand) (r : Polynomial) → ts ≡ raised n p → us ≡ raised n q → vs ≡ difference_terms ts us
      → r ≡ lowest vs n → r ≡ difference_map p q
  unfolding difference_map
  difference_gives ts us vs r e g h k = rw (k, h, e, g, is) refl

pub sum_is : (p q : Polynomial) → IsPolynomial p → IsPolynomial q → IsSum p q (sum_map p q)
unfolding sum_map
sum_is p q hp hq a = maps.sum_value a p q hp hq

pub difference_is : (p q : Polynomial) → IsPolynomial p → IsPolynomial q → IsDifference p q (difference_map p q)
unfolding difference_map
difference_is p q hp hq a = maps.difference_value a p q hp hq

-- ---- products and quotients

pub product_is : (p q : Polynomial) → IsPolynomial p → IsPolynomial q → IsProduct p q (product_map p q)
unfolding product_map
product_is p q hp hq a = maps.product_value a p q hp hq

pub product_gives : (p q : Polynomial) (vs : List Summand) (n : ℕ) (r : Polynomial) → vs ≡ product_terms p.terms q.terms
    → n ≡ p.denominator * q.denominator → r ≡ lowest vs n → r ≡ product_map p q
unfolding product_map
product_gives p q vs n r e f g = rw (g, e, f) refl

pub product_map_is : (p q : Polynomial) (vs : List Summand) → IsPolynomial p → IsPolynomial q → ProductFits p q
    → vs ≡ product_terms p.terms q.terms → IsMap vs
product_map_is p q vs hp hq f e = rw e (maps.product_map p q hp.map hq.map f)

pub product_some_is : (p q : Polynomial) (n : ℕ) → IsPolynomial p → IsPolynomial q → n ≡ p.denominator * q.denominator → 0 < n
product_some_is p q n hp hq e = rw e (maps.product_some p q hp hq)

pub quotient_is : (p : Polynomial) (k : ℕ) → IsPolynomial p → 0 < k → IsQuotient p k (quotient_map p k)
unfolding quotient_map
quotient_is p k hp l a = maps.quotient_value a p k hp l

pub quotient_gives : (p : Polynomial) (k : ℕ) (vs : List Summand) (n : ℕ) (r : Polynomial) → vs ≡ p.terms → n ≡ p.denominator * k
    → r ≡ lowest vs n → r ≡ quotient_map p k
unfolding quotient_map
quotient_gives p k vs n r e f g = rw (g, e, f) refl

pub quotient_some : (p : Polynomial) (k n : ℕ) → IsPolynomial p → 0 < k → n ≡ p.denominator * k → 0 < n
quotient_some p k n hp l e = rw e (maps.some_product p.denominator k hp.lowest.positive l)

-- ---- substitution

pub substitute_is : (by : List (ℕ × Polynomial)) (p : Polynomial) → AllFine by → IsPolynomial p → IsSubstituted by p (substitute_map by p)
unfolding substitute_map
substitute_is by p f hp a = substituted_value a by p f hp.lowest.positive

module _ (by : List (ℕ × Polynomial)) (p : Polynomial) (fine : AllFine by) (hp : IsPolynomial p)
    (n : ℕ) (is : n ≡ common_denominator by p.terms) (es : List Summand) (es_is : es ≡ raised_terms by n p.terms) where
  pub raised_is : es ≡ with_common_denominator by p.terms
  raised_is = es_is ∙ ap (λ k. raised_terms by k p.terms) is

  pub raised_degree : degree es ≤ 4
  raised_degree = rw (es_is, degree_raised by n p.terms) (maps.degree_map p.terms hp.map)

  pub raised_light : n ≤ 2 ^ 16 → weight es ≤ 2 ^ 100
  raised_light l = rw es_is (omega (arith, weight_raised by n p.terms l, hp.map.light))

  pub raised_fits : (d : ℕ) → d ≡ p.denominator * n → QuotientFits p n → ReplacedFits by es → SubstituteFits by p
  raised_fits d e q f =
      record {
        terms = subst (ReplacedFits by) raised_is f;
        fine = let g : p.denominator * n ≤ 2 ^ 16 = q.fine in
            let h : p.denominator * n ≡ p.denominator * common_denominator by p.terms = ap (λ k. p.denominator * k) is in omega arith;
      }

  pub fits_raised : SubstituteFits by p → ReplacedFits by es × QuotientFits p n
  fits_raised f = (
    subst (ReplacedFits by) (sym raised_is) f.terms,
    record {
      fine = let g : common_denominator by p.terms * p.denominator ≤ 2 ^ 16 = f.fine in
          let h : p.denominator * n ≡ p.denominator * common_denominator by p.terms = ap (λ k. p.denominator * k) is in omega arith;
    },
  )

  pub made_map : (vs : List Summand) → AllMaps by es → ReplacedFits by es → vs ≡ replaced by [] es → IsMap vs
  made_map vs m f e =
      let s = raised_sorted by (common_denominator by p.terms) p.terms (common_denominator_some by fine p.terms)
      (all_divide by fine p.terms) hp.map.sorted in
      rw e (substituted_map by es m (rw raised_is s) f)

  pub made_gives : (vs : List Summand) (d : ℕ) (r : Polynomial) → vs ≡ replaced by [] es → d ≡ p.denominator * n → r ≡ lowest vs d
      → r ≡ substitute_map by p
  unfolding substitute_map
  made_gives vs d r e f g =
      let h : d ≡ common_denominator by p.terms * p.denominator = f ∙ ap (λ k. p.denominator * k) is ∙ (omega arith) in
      rw (g, e, raised_is, h) refl

pub too_fine : (by : List (ℕ × Polynomial)) (p : Polynomial) → IsPolynomial p → 2 ^ 16 < common_denominator by p.terms → SubstituteFits by p
    → ⊥
too_fine by p hp l f =
    let a : common_denominator by p.terms * 1 ≤ common_denominator by p.terms * p.denominator =
    maps.more_times (common_denominator by p.terms) p.denominator hp.lowest.positive in
    omega (arith, a, f.fine)

pub too_coarse : (p : Polynomial) (k : ℕ) → IsPolynomial p → 2 ^ 16 < k → QuotientFits p k → ⊥
too_coarse p k h l f = let a : 1 * k ≤ p.denominator * k = mul-le-mul_right k h.lowest.positive in omega (arith, a, f.fine)
