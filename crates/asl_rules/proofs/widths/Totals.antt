-- Sums of many widths, over one denominator: if all parts together are within the limits, so is the sum of them, and of the first of them,
-- which are in lowest terms.
use Rattle.std.proofs.Common.{◌≡◌, ℕ, zero, suc, ◌+◌, ◌*◌, ◌/◌, ◌%◌, ◌<◌, ◌≤◌, pos, negsuc, Bool, true, false, List, [], ◌∷◌, ◌++◌, length, Ok, refl, sym, ap, ◌∙◌, subst, arith}
use Rattle.std.specs.Prelude.{nat_le, ◌&&◌, unsigned_abs}
use Rattle.std.proofs.Math.Nat.{mod_self, mod-one, div_self, div-one, dvd-mod_iff, mul-le-mul_right, le_of_mul-le-mul_right, eq_of_mul-eq-mul_left}
use Rattle.std.proofs.lemmas.Nat.{mod_below}
use Rattle.std.proofs.lemmas.Nat.Gcd.{dvd_of_mod-eq-zero, mod-eq-zero_of_dvd}
use Rattle.std.proofs.lemmas.Bool.Decides.{nat_tests}
use Rattle.asl_syn.specs.declared.token.Span.{Span}
use Rattle.asl_syn.specs.declared.code.StaticCode.TheVariants.{T20}
use Rattle.asl_poly.specs.WidthLimits.{heaviest, most_atoms, finest}
use Rattle.asl_poly.specs.Terms.{Summand, Polynomial}
use Rattle.asl_poly.specs.Limits.{weight, has_atom, note, note_factors, note_terms, atoms_of_both}
use Rattle.asl_poly.specs.Operations.{is_zero, constant_term, constant_terms, gather, scaled}
use Rattle.asl_poly.specs.Denominators.{Divides, greatest_common_divisor, least_common_multiple, sizes, divided, raised, lowest}
use Rattle.asl_poly.specs.Poly.{IsPolynomial, SumFits, weight_over, constant_map, sum_map, difference_map}
use Rattle.asl_poly.proofs.Atoms.{AllIn, FactorsIn, Distinct, pigeonhole, distinct_terms, terms_have, in_keep, terms_in, gather_in, scaled_in}
use Rattle.asl_poly.proofs.NormalForm.{weight_gather, weight_scaled}
use Rattle.asl_poly.proofs.Divisors.{divides_exact, multiple_divides, divides_trans, divides_le, divisor_some, divisor_divides, divisor_most, multiple_left, multiple_right, multiple_some, raised_some}
use Rattle.asl_poly.proofs.LowestTerms.{weight_multiples, divided_back}
use Rattle.asl_cons.proofs.EndsAsWidths.{true_le}
use Rattle.asl_rules.specs.Faults.{need}
use Rattle.asl_rules.specs.types.Widths.{Total, plus, minus, plus_number, totalled}
use Rattle.asl_rules.specs.expressions.Slicing.{no_width}
use Rattle.asl_rules.proofs.basics.Inversions.{ok_ok, then_ok, need_ok}
use Rattle.asl_rules.proofs.basics.Tests.{both}
use Rattle.asl_rules.proofs.widths.WidthsHeld.{constant_held, sum_polynomial, difference_polynomial}

-- ---- the least common multiple divides each common multiple

-- what divides a number and another divides what is left of the one over the other
rest_divides : (k n r : ℕ) → Divides k n → Divides k r → Divides k (n % r)
rest_divides k n r h i = mod-eq-zero_of_dvd k ((dvd-mod_iff k (dvd_of_mod-eq-zero k i)).1 (dvd_of_mod-eq-zero k h))

turned_product : (q a r d e : ℕ) → q * r ≡ d * e → a * d ≡ r → d * (q * a) ≡ d * e
turned_product q a r d e h k = let s : d * (q * a) ≡ q * (a * d) = omega arith in s ∙ ap (λ n. q * n) k ∙ h

module _ (d e : ℕ) (sd : 0 < d) (se : 0 < e) where
  -- a common multiple that divides the product
  least_whole : (r : ℕ) → 0 < r → Divides d r → Divides e r → Divides r (d * e) → least_common_multiple d e ≤ r
  unfolding least_common_multiple
  least_whole r p i j k =
      let g = greatest_common_divisor d (e ∷ []) in
      let q = d * e / r in
      let whole : q * r ≡ d * e = divides_exact r (d * e) k in
      let a : q * (r / d) ≡ e = eq_of_mul-eq-mul_left d sd (q * (r / d)) e (turned_product q (r / d) r d e whole (divides_exact d r i)) in
      let swapped : d * e ≡ e * d = omega arith in
      let b : q * (r / e) ≡ d =
      eq_of_mul-eq-mul_left e se (q * (r / e)) d (turned_product q (r / e) r e d (whole ∙ swapped) (divides_exact e r j)) in
      let in_d : Divides q d = multiple_divides q (r / e) d (sym b ∙ (omega arith)) in
      let in_e : Divides q e = multiple_divides q (r / d) e (sym a ∙ (omega arith)) in
      let most : q ≤ g = divisor_most d (e ∷ []) q sd in_d (in_e, tt) in
      let h = divisor_divides d (e ∷ []) in
      let exact : e / g * g ≡ e = divides_exact g e h.1.0 in
      let left : (d * (e / g)) * g ≡ d * e = let s : (d * (e / g)) * g ≡ d * (e / g * g) = omega arith in s ∙ ap (λ n. d * n) exact in
      let bound : q * r ≤ g * r = mul-le-mul_right r most in
      let over : (d * (e / g)) * g ≤ r * g = omega (arith, left, whole, bound) in
      le_of_mul-le-mul_right over (divisor_some d (e ∷ []))

  -- what a common multiple leaves over of the product is a smaller one, or nothing
  least_step : (r m : ℕ) → (d * e) % r ≡ m → 0 < r → Divides d r → Divides e r →
      ((q : ℕ) → q < r → 0 < q → Divides d q → Divides e q → least_common_multiple d e ≤ q) → least_common_multiple d e ≤ r
  least_step r zero h p i j again = least_whole r p i j h
  least_step r (suc m) h p i j again =
      let below : (d * e) % r < r = mod_below (d * e) r p in
      let some : 0 < (d * e) % r = omega (arith, h) in
      let swapped : d * e ≡ e * d = omega arith in
      let s : least_common_multiple d e ≤ (d * e) % r = again ((d * e) % r) below some
      (rest_divides d (d * e) r (multiple_divides d e (d * e) swapped) i) (rest_divides e (d * e) r (multiple_divides e d (d * e) refl) j)
      in
      omega (arith, s, below)

  least_by : (b r : ℕ) → r < b → 0 < r → Divides d r → Divides e r → least_common_multiple d e ≤ r
  least_by zero r l p i j = absurd (omega arith)
  least_by (suc b) r l p i j = least_step r ((d * e) % r) refl p i j (λ q k n x y. least_by b q (omega (arith, k, l)) n x y)

  pub least_most : (n : ℕ) → 0 < n → Divides d n → Divides e n → least_common_multiple d e ≤ n
  least_most n p i j = least_by (suc n) n (omega arith) p i j

  pub least_divides : (n : ℕ) → Divides d n → Divides e n → Divides (least_common_multiple d e) n
  least_divides n i j = by (n % least_common_multiple d e) refl
    where
      some : 0 < least_common_multiple d e
      some = multiple_some d e sd se

      by : (m : ℕ) → n % least_common_multiple d e ≡ m → n % least_common_multiple d e ≡ 0
      by zero h = h
      by (suc m) h =
          let below : n % least_common_multiple d e < least_common_multiple d e = mod_below n (least_common_multiple d e) some in
          let s : least_common_multiple d e ≤ n % least_common_multiple d e = least_most (n % least_common_multiple d e) (omega (arith, h))
          (rest_divides d n (least_common_multiple d e) i (multiple_left d e))
          (rest_divides e n (least_common_multiple d e) j (multiple_right d e)) in
          absurd (omega (arith, s, below))

-- ---- totals

-- within the limits
pub record Fits (x : Total) : Type 0 where
  pub light : x.weight ≤ heaviest
  pub few : length x.atoms ≤ most_atoms
  pub fine : x.denominator ≤ finest

-- the sum, which is in lowest terms, has a denominator that divides that of all parts, and over that one it weighs no more than they do
pub record Counts (x : Total) : Type 0 where
  pub some : 0 < x.denominator
  pub held : IsPolynomial x.sum
  pub divides : Divides x.sum.denominator x.denominator
  pub lighter : weight x.sum.terms * x.denominator ≤ x.weight * x.sum.denominator
  pub inside : FactorsIn x.atoms x.sum.terms
  pub distinct : Distinct x.atoms

-- from one total to a later one
pub record Step (x y : Total) : Type 0 where
  pub some : 0 < x.denominator → 0 < y.denominator
  pub back : 0 < x.denominator → Fits y → Fits x
  pub keeps : Counts x → Fits y → Counts y

pub step_none : (x : Total) → Step x x
step_none x = record { some = λ h. h; back = λ h f. f; keeps = λ c f. c }

pub step_then : (x y z : Total) → Step x y → Step y z → Step x z
step_then x y z s t = record {
  some = λ h. t.some (s.some h);
  back = λ h f. s.back h (t.back (s.some h) f);
  keeps = λ c f. t.keeps (s.keeps c (t.back (s.some c.some) f)) f;
}

-- ---- one part more

length_snoc : (ys : List ℕ) (x : ℕ) → length ys ≤ length (ys ++ x ∷ [])
length_snoc [] x = omega arith
length_snoc (y ∷ ys) x = omega (arith, length_snoc ys x)

length_note : (seen : List ℕ) (x : ℕ) → length seen ≤ length (note seen x)
length_note seen x = by (has_atom x seen) refl
  where
    by : (b : Bool) → has_atom x seen ≡ b → length seen ≤ length (note seen x)
    by true e = rw e (omega arith)
    by false e = rw e (length_snoc seen x)

length_factors : (seen xs : List ℕ) → length seen ≤ length (note_factors seen xs)
length_factors seen [] = omega arith
length_factors seen (x ∷ xs) = omega (arith, length_note seen x, length_factors (note seen x) xs)

length_terms : (seen : List ℕ) (ts : List Summand) → length seen ≤ length (note_terms seen ts)
length_terms seen [] = omega arith
length_terms seen (t ∷ ts) = omega (arith, length_factors seen t.factors, length_terms (note_factors seen t.factors) ts)

both_inside : (ys : List ℕ) (p q : List Summand) → FactorsIn ys p → AllIn (note_terms ys q) (note_terms (note_terms [] p) q)
both_inside ys p q h =
    terms_in (note_terms ys q) (note_terms [] p) q (terms_in (note_terms ys q) [] p tt (in_keep ys q p h)) (terms_have ys q)

divided_inside : (k : ℕ) (ys : List ℕ) (ts : List Summand) → FactorsIn ys ts → FactorsIn ys (divided k ts)
divided_inside k ys [] h = tt
divided_inside k ys (t ∷ ts) h = (h.0, divided_inside k ys ts h.1)

-- the new part, over the multiple n of both denominators, and what is made of both sums
pub record Joined (x y : Total) (p : Polynomial) (n : ℕ) : Type 0 where
  pub over : y.denominator ≡ n
  pub left : Divides x.denominator n
  pub right : Divides p.denominator n
  pub weighs : y.weight ≡ x.weight * (n / x.denominator) + weight p.terms * (n / p.denominator)
  pub atoms : y.atoms ≡ note_terms x.atoms p.terms

module _ (x y : Total) (p : Polynomial) (n : ℕ) (i : IsPolynomial p) (sn : 0 < n) (j : Joined x y p n) where
  joined_back : 0 < x.denominator → Fits y → Fits x
  joined_back s f =
      let one : 0 < n / x.denominator = raised_some x.denominator n sn j.left in
      let more : x.weight * 1 ≤ x.weight * (n / x.denominator) = omega (arith, mul-le-mul_right x.weight one) in
      let long : length x.atoms ≤ length y.atoms =
      subst (λ (l : List ℕ). length x.atoms ≤ length l) (sym j.atoms) (length_terms x.atoms p.terms) in
      record {
        light = omega (arith, more, j.weighs, f.light);
        few = omega (arith, long, f.few);
        fine = omega (arith, divides_le x.denominator n sn j.left, j.over, f.fine);
      }

  module _ (c : Counts x) (f : Fits y) where
    least : ℕ
    least = least_common_multiple x.sum.denominator p.denominator

    in_left : Divides x.sum.denominator n
    in_left = divides_trans x.sum.denominator x.denominator n c.divides j.left

    whole : Divides least n
    unfolding least
    whole = least_divides x.sum.denominator p.denominator c.held.lowest.positive i.lowest.positive n in_left j.right

    least_some : 0 < least
    unfolding least
    least_some = multiple_some x.sum.denominator p.denominator c.held.lowest.positive i.lowest.positive

    l1 : least / x.sum.denominator * x.sum.denominator ≡ least
    unfolding least
    l1 = divides_exact x.sum.denominator least (multiple_left x.sum.denominator p.denominator)

    l2 : least / p.denominator * p.denominator ≡ least
    unfolding least
    l2 = divides_exact p.denominator least (multiple_right x.sum.denominator p.denominator)

    n1 : n / x.denominator * x.denominator ≡ n
    n1 = divides_exact x.denominator n j.left

    n2 : n / p.denominator * p.denominator ≡ n
    n2 = divides_exact p.denominator n j.right

    -- over n the sum so far, times n, weighs no more than its parts, times the least multiple
    first_weight : (weight x.sum.terms * (least / x.sum.denominator)) * n ≤ (x.weight * (n / x.denominator)) * least
    first_weight =
        by (weight x.sum.terms) (least / x.sum.denominator) x.sum.denominator x.denominator x.weight (n / x.denominator)
        least n l1 n1 c.lighter c.held.lowest.positive c.some
      where
        by : (w l s d W k L m : ℕ) → l * s ≡ L → k * d ≡ m → w * d ≤ W * s → 0 < s → 0 < d → (w * l) * m ≤ (W * k) * L
        by w l s d W k L m a b h ps pd =
            let u : (w * l) * (k * d) ≡ (w * d) * (l * k) = omega arith in
            let v : (W * k) * (l * s) ≡ (W * s) * (l * k) = omega arith in
            let t : (w * d) * (l * k) ≤ (W * s) * (l * k) = mul-le-mul_right (l * k) h in
            let q : (w * l) * (k * d) ≤ (W * k) * (l * s) = omega (arith, u, v, t) in
            subst (λ z. (w * l) * z ≤ (W * k) * L) b (subst (λ z. (w * l) * (k * d) ≤ (W * k) * z) a q)

    second_weight : (weight p.terms * (least / p.denominator)) * n ≡ (weight p.terms * (n / p.denominator)) * least
    second_weight = by (weight p.terms) (least / p.denominator) (n / p.denominator) p.denominator least n l2 n2
      where
        by : (w l k e L m : ℕ) → l * e ≡ L → k * e ≡ m → (w * l) * m ≡ (w * k) * L
        by w l k e L m a b =
            let u : (w * l) * (k * e) ≡ (w * k) * (l * e) = omega arith in
            sym (ap (λ z. (w * l) * z) b) ∙ u ∙ ap (λ z. (w * k) * z) a

    both_weigh : (weight x.sum.terms * (least / x.sum.denominator) + weight p.terms * (least / p.denominator)) * n ≤ y.weight * least
    both_weigh =
        let a = first_weight in
        let b = second_weight in
        let u : y.weight * least ≡ (x.weight * (n / x.denominator) + weight p.terms * (n / p.denominator)) * least =
        ap (λ m. m * least) j.weighs in
        omega (arith, a, b, u)

    sum_light : weight x.sum.terms * (least / x.sum.denominator) + weight p.terms * (least / p.denominator) ≤ y.weight
    sum_light =
        let s = weight x.sum.terms * (least / x.sum.denominator) + weight p.terms * (least / p.denominator) in
        let l : least ≤ n = divides_le least n sn whole in
        let m : least * s ≤ n * s = mul-le-mul_right s l in
        let t : s * least ≤ y.weight * least = omega (arith, m, both_weigh) in
        le_of_mul-le-mul_right t least_some

    fits : SumFits x.sum p
    unfolding least
    fits = record {
      light = omega (arith, sum_light, f.light);
      few =
          let long : length (note_terms x.atoms p.terms) ≤ most_atoms = subst (λ (l : List ℕ). length l ≤ most_atoms) j.atoms f.few in
          omega (
            arith,
            long,
            pigeonhole (atoms_of_both x.sum.terms p.terms) (note_terms x.atoms p.terms)
                (distinct_terms (note_terms [] x.sum.terms) p.terms (distinct_terms [] x.sum.terms tt))
                (both_inside x.atoms x.sum.terms p.terms c.inside),
          );
      fine = omega (arith, divides_le least n sn whole, j.over, f.fine);
    }

    -- terms over the least multiple that weigh as much, in lowest terms
    lowered_weight : (ts : List Summand) → weight ts ≤ weight x.sum.terms * (least / x.sum.denominator) + weight p.terms * (least / p.denominator) →
        weight (lowest ts least).terms * n ≤ y.weight * (lowest ts least).denominator
    unfolding lowest
    lowered_weight ts h =
        let g = greatest_common_divisor least (sizes ts) in
        let q = divisor_divides least (sizes ts) in
        let w : g * weight (divided g ts) ≡ weight ts = sym (weight_multiples g (divided g ts)) ∙ ap weight (divided_back g ts q.1) in
        let d : least / g * g ≡ least = divides_exact g least q.0 in
        let m : weight ts * n ≤ (weight x.sum.terms * (least / x.sum.denominator) + weight p.terms * (least / p.denominator)) * n =
        mul-le-mul_right n h in
        let u : (weight (divided g ts) * n) * g ≡ weight ts * n =
        let s : (weight (divided g ts) * n) * g ≡ (g * weight (divided g ts)) * n = omega arith in s ∙ ap (λ z. z * n) w in
        let v : (y.weight * (least / g)) * g ≡ y.weight * least =
        let s : (y.weight * (least / g)) * g ≡ y.weight * (least / g * g) = omega arith in s ∙ ap (λ z. y.weight * z) d in
        let t : (weight (divided g ts) * n) * g ≤ (y.weight * (least / g)) * g = omega (arith, u, v, m, both_weigh) in
        le_of_mul-le-mul_right t (divisor_some least (sizes ts))

    lowered_divides : (ts : List Summand) → Divides (lowest ts least).denominator n
    unfolding lowest
    lowered_divides ts =
        let g = greatest_common_divisor least (sizes ts) in
        let d : least / g * g ≡ least = divides_exact g least (divisor_divides least (sizes ts)).0 in
        let e : least ≡ g * (least / g) = omega (arith, d) in
        divides_trans (least / g) least n (multiple_divides (least / g) g least e) whole

    lowered_inside : (ys : List ℕ) (ts : List Summand) → FactorsIn ys ts → FactorsIn ys (lowest ts least).terms
    unfolding lowest
    lowered_inside ys ts h = divided_inside (greatest_common_divisor least (sizes ts)) ys ts h

    -- both sums over the least multiple
    both_terms : Summand → List Summand
    both_terms s = gather (raised least x.sum) (scaled s (raised least p))

    terms_light : (s : Summand) → unsigned_abs s.coefficient ≡ 1 →
        weight (both_terms s) ≤ weight x.sum.terms * (least / x.sum.denominator) + weight p.terms * (least / p.denominator)
    unfolding both_terms
    terms_light s one =
        let a = weight_gather (raised least x.sum) (scaled s (raised least p)) in
        let b : weight (scaled s (raised least p)) ≡ 1 * weight (raised least p) =
        weight_scaled s (raised least p) ∙ ap (λ m. m * weight (raised least p)) one in
        let u = weight_multiples (least / x.sum.denominator) x.sum.terms in
        let v = weight_multiples (least / p.denominator) p.terms in
        omega (arith, a, b, u, v)

    terms_inside : (s : Summand) → AllIn (note_terms x.atoms p.terms) s.factors → FactorsIn (note_terms x.atoms p.terms) (both_terms s)
    unfolding both_terms
    terms_inside s h =
        let ys = note_terms x.atoms p.terms in
        gather_in ys (raised least x.sum) (scaled s (raised least p))
        (scaled_in ys (constant_term (pos (least / x.sum.denominator))) x.sum.terms tt (in_keep x.atoms p.terms x.sum.terms c.inside))
        (scaled_in ys s (raised least p) h (scaled_in ys (constant_term (pos (least / p.denominator))) p.terms tt
        (terms_have x.atoms p.terms)))

    made : (s : Summand) → unsigned_abs s.coefficient ≡ 1 → AllIn (note_terms x.atoms p.terms) s.factors →
        y.sum ≡ lowest (both_terms s) least → IsPolynomial y.sum → Counts y
    made s one h e held = record {
      some = subst (λ m. 0 < m) (sym j.over) sn;
      held = held;
      divides =
          subst (λ m. Divides y.sum.denominator m) (sym j.over)
          (subst (λ (q : Polynomial). Divides q.denominator n) (sym e) (lowered_divides (both_terms s)));
      lighter =
          subst (λ m. weight y.sum.terms * m ≤ y.weight * y.sum.denominator) (sym j.over)
          (subst (λ (q : Polynomial). weight q.terms * n ≤ y.weight * q.denominator) (sym e)
          (lowered_weight (both_terms s) (terms_light s one)));
      inside =
          subst (λ (l : List ℕ). FactorsIn l y.sum.terms) (sym j.atoms)
          (subst (λ (q : Polynomial). FactorsIn (note_terms x.atoms p.terms) q.terms) (sym e)
          (lowered_inside (note_terms x.atoms p.terms) (both_terms s) (terms_inside s h)));
      distinct = subst Distinct (sym j.atoms) (distinct_terms x.atoms p.terms c.distinct);
    }

    sum_made : y.sum ≡ sum_map x.sum p → Counts y
    unfolding sum_map least both_terms
    sum_made e = made (constant_term (pos 1)) refl tt e (subst IsPolynomial (sym e) (sum_polynomial x.sum p c.held i fits))

    difference_made : y.sum ≡ difference_map x.sum p → Counts y
    unfolding difference_map least both_terms
    difference_made e = made (constant_term (negsuc 0)) refl tt e (subst IsPolynomial (sym e) (difference_polynomial x.sum p c.held i fits))

-- ---- the steps

with_part_joined : (x : Total) (p s : Polynomial) →
    Joined x (record { sum = s; weight = x.weight * (least_common_multiple x.denominator p.denominator / x.denominator) + weight_over (least_common_multiple x.denominator p.denominator) p; denominator = least_common_multiple x.denominator p.denominator; atoms = note_terms x.atoms p.terms }) p (least_common_multiple x.denominator p.denominator)
with_part_joined x p s =
    record { over = refl; left = multiple_left x.denominator p.denominator; right = multiple_right x.denominator p.denominator; weighs = refl; atoms = refl }

pub step_plus : (x : Total) (p : Polynomial) → IsPolynomial p → Step x (plus x p)
step_plus x p i =
    let n = least_common_multiple x.denominator p.denominator in
    let j = with_part_joined x p (sum_map x.sum p) in
    record {
      some = λ s. multiple_some x.denominator p.denominator s i.lowest.positive;
      back = λ s f. joined_back x (plus x p) p n i (multiple_some x.denominator p.denominator s i.lowest.positive) j s f;
      keeps = λ c f. sum_made x (plus x p) p n i (multiple_some x.denominator p.denominator c.some i.lowest.positive) j c f refl;
    }

pub step_minus : (x : Total) (p : Polynomial) → IsPolynomial p → Step x (minus x p)
step_minus x p i =
    let n = least_common_multiple x.denominator p.denominator in
    let j = with_part_joined x p (difference_map x.sum p) in
    record {
      some = λ s. multiple_some x.denominator p.denominator s i.lowest.positive;
      back = λ s f. joined_back x (minus x p) p n i (multiple_some x.denominator p.denominator s i.lowest.positive) j s f;
      keeps = λ c f. difference_made x (minus x p) p n i (multiple_some x.denominator p.denominator c.some i.lowest.positive) j c f refl;
    }

-- ---- numbers

pub number_weight : (n : ℕ) → weight (constant_map (pos n)).terms ≡ n
unfolding constant_map
number_weight n = by (is_zero (pos n)) refl
  where
    by : (b : Bool) → is_zero (pos n) ≡ b → weight (constant_terms (pos n)) ≡ n
    by true e = rw e (sym (grind (arith, nat_tests, e)))
    by false e = rw e (omega arith)

number_atoms : (n : ℕ) (seen : List ℕ) → note_terms seen (constant_map (pos n)).terms ≡ seen
unfolding constant_map
number_atoms n seen = by (is_zero (pos n)) refl
  where
    by : (b : Bool) → is_zero (pos n) ≡ b → note_terms seen (constant_terms (pos n)) ≡ seen
    by true e = rw e refl
    by false e = rw e refl

number_over : (n : ℕ) → (constant_map (pos n)).denominator ≡ 1
unfolding constant_map
number_over n = refl

number_joined : (x : Total) (n : ℕ) → 0 < x.denominator → Joined x (plus_number x n) (constant_map (pos n)) x.denominator
number_joined x n s = record {
  over = refl;
  left = mod_self x.denominator;
  right = subst (λ m. Divides m x.denominator) (sym (number_over n)) (mod-one x.denominator);
  weighs =
      let one : x.denominator / x.denominator ≡ 1 = div_self s in
      let all : x.denominator / 1 ≡ x.denominator = div-one x.denominator in
      let w = number_weight n in
      let o : x.denominator / (constant_map (pos n)).denominator ≡ x.denominator = ap (λ m. x.denominator / m) (number_over n) ∙ all in
      let a : x.weight * 1 ≡ x.weight * (x.denominator / x.denominator) = ap (λ m. x.weight * m) (sym one) in
      let b : n * x.denominator ≡ weight (constant_map (pos n)).terms * (x.denominator / (constant_map (pos n)).denominator) =
      ap (λ m. m * x.denominator) (sym w) ∙ ap (λ m. weight (constant_map (pos n)).terms * m) (sym o) in
      omega (arith, a, b);
  atoms = sym (number_atoms n x.atoms);
}

-- a number that the limit of all parts holds is within the limits itself
number_held : (x : Total) (n : ℕ) → 0 < x.denominator → Fits (plus_number x n) → IsPolynomial (constant_map (pos n))
number_held x n s f =
    let m : 1 * n ≤ x.denominator * n = mul-le-mul_right n s in
    constant_held (pos n) (omega (arith, m, f.light))

pub step_number : (x : Total) (n : ℕ) → Step x (plus_number x n)
step_number x n = record {
  some = λ s. s;
  back = λ s f. joined_back x (plus_number x n) (constant_map (pos n)) x.denominator (number_held x n s f) s (number_joined x n s) s f;
  keeps =
      λ c f. sum_made x (plus_number x n) (constant_map (pos n)) x.denominator (number_held x n c.some f) c.some (number_joined x n c.some)
      c f refl;
}

-- ---- the first total, and the last

no_factors : FactorsIn [] (constant_map (pos 0)).terms
unfolding constant_map
no_factors = tt

pub begun : Counts no_width
begun = record {
  some = omega arith;
  held = constant_held (pos 0) (omega arith);
  divides = subst (λ m. Divides m 1) (sym (number_over 0)) (mod-one 1);
  lighter = let w = number_weight 0 in omega (arith, w);
  inside = no_factors;
  distinct = tt;
}

pub fits_of : (span : Span) (y : Total) (w : Polynomial) → totalled span y ≡ Ok w → Fits y
fits_of span y w h =
    let light = nat_le y.weight heaviest in
    let few = nat_le (length y.atoms) most_atoms in
    let fine = nat_le y.denominator finest in
    let u = then_ok (need (light && (few && fine)) T20 span) (Ok y.sum) w h in
    let p = both light (few && fine) (need_ok (light && (few && fine)) T20 span tt u.first) in
    let q = both few fine p.1 in
    record { light = true_le y.weight heaviest p.0; few = true_le (length y.atoms) most_atoms q.0; fine = true_le y.denominator finest q.1 }

pub sum_of_total : (span : Span) (y : Total) (w : Polynomial) → totalled span y ≡ Ok w → y.sum ≡ w
sum_of_total span y w h =
    let u =
    then_ok (need (nat_le y.weight heaviest && (nat_le (length y.atoms) most_atoms && nat_le y.denominator finest)) T20 span)
    (Ok y.sum) w h in
    ok_ok y.sum w u.then

pub ended : (span : Span) (x y : Total) (w : Polynomial) → Counts x → Step x y → totalled span y ≡ Ok w → IsPolynomial w
ended span x y w c s h = subst IsPolynomial (sum_of_total span y w h) (s.keeps c (fits_of span y w h)).held
