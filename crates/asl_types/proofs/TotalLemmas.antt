-- Sums of many widths: what their weights, their denominators and their atoms say of the sum.
use Rattle.std.proofs.Common.{◌≡◌, ℕ, ◌+◌, ◌*◌, ◌/◌, ◌^◌, ◌<◌, ◌≤◌, ◌⊎◌, inl, inr, ℤ, pos, nat_le, Bool, true, false, ◌&&◌, List, [], ◌∷◌, length, drop, get_or, Option, Some, None, refl, sym, ap, ap₂, subst, ◌∙◌, arith}
use Rattle.std.specs.Prelude.{slice_get, unsigned_abs, Result, Ok, Err, IfOk, if◌then◌else◌}
use Rattle.std.proofs.Math.Nat.{mul-le-mul_left, mul-le-mul_right, le_of_mul-le-mul_right, le_antisymm, div-le_self, mod_self, mod-one, div_self, div-one}
use Rattle.std.proofs.lemmas.Bool.Decides.{nat_tests}
use Rattle.std.proofs.lemmas.Int.{to_z-of_z}
use Rattle.std.proofs.lemmas.Option.{slice_get_within, get_or_from_slice_get, slice_get_cases}
use mir.Syntax.{w128}
use mir.Val.{of_z, to_z}
use Rattle.asl_syn.specs.declared.token.Span.{Span}
use Rattle.asl_syn.specs.declared.code.StaticCode.TheVariants.{T20}
use Rattle.asl_poly.specs.Terms.{Polynomial, Summand}
use Rattle.asl_poly.specs.Limits.{weight, note_factors, note_terms, atoms_of_both}
use Rattle.asl_poly.specs.Operations.{is_zero, constant_term}
use Rattle.asl_poly.specs.Denominators.{Divides, least_common_multiple}
use Rattle.asl_poly.specs.declared.PolyRefused.{PolyRefused}
use Rattle.asl_poly.specs.declared.PolyRefused.TheVariants.{TooLarge}
use Rattle.asl_poly.specs.Poly.{IsPolynomial, SumFits, Gives, sum_denominator, weight_over, constant_map, sum_map}
use Rattle.asl_poly.proofs.Atoms.{AllIn, FactorsIn, pigeonhole, distinct_terms, terms_have, in_keep, terms_in}
use Rattle.asl_poly.proofs.MachineIntegers.{light_fits}
use Rattle.asl_poly.proofs.Divisors.{divides_exact, divides_trans, multiple_left, multiple_right, multiple_some, multiple_most}
use Rattle.asl_poly.proofs.Maps.{some_product}
use Rattle.asl_cons.proofs.Covering.{denominator_constant_map}
use Rattle.asl_rules.specs.Faults.{◌>>◌, need, fault_of}
use Rattle.asl_rules.specs.expressions.Slicing.{no_width}
use Rattle.asl_rules.specs.types.Widths as rules
use Rattle.asl_poly.specs.WidthLimits.{heaviest, most_atoms, finest}
use Rattle.asl_rules.proofs.basics.Tests.{both}
use Rattle.asl_rules.proofs.widths.Totals.{Fits, Counts, Step, least_most, step_plus, step_minus, begun, number_weight}
use Rattle.asl_types.specs.declared.totals.within.Within.{Within}
use Rattle.asl_types.specs.declared.totals.Sign.{Sign}
use Rattle.asl_types.specs.declared.totals.Sign.TheVariants.{Plus, Minus}
use Rattle.asl_types.specs.declared.totals.Total.{Total}
use Rattle.asl_types.specs.private.Totals.{IsWithin, IsPast, IsTotalOf, IsTotal, adds, added}
use Rattle.asl_types.proofs.Rest.{at_next, none_after}

-- ---- terms by their places

at_place : {A : Type 0} (xs : List A) (i : ℕ) (x : A) → slice_get xs i ≡ Some x → drop i xs ≡ x ∷ drop (i + 1) xs
at_place xs i x e = at_next xs i x (slice_get_within xs i x e) (sym (get_or_from_slice_get xs i x x e))

past_place : {A : Type 0} (xs : List A) (i : ℕ) → slice_get xs i ≡ None → length xs ≤ i
past_place xs i e = by (slice_get_cases xs i).1
  where
    by : ((x : _) × (i < length xs) × (slice_get xs i ≡ Some x) × (get_or xs i x ≡ x)) ⊎ ((length xs ≤ i) × (slice_get xs i ≡ None)) → length xs ≤ i
    by (inl h) = cc (e, h.2)
    by (inr h) = h.0

pub term_light : (ts : List Summand) (i : ℕ) (s : Summand) → slice_get ts i ≡ Some s → weight (drop i ts) ≡ unsigned_abs s.coefficient + weight (drop (i + 1) ts)
term_light ts i s e = ap weight (at_place ts i s e)

pub weight_next : (ts : List Summand) (i n : ℕ) (s : Summand) → slice_get ts i ≡ Some s → n + weight (drop i ts) ≡ weight ts → (n + unsigned_abs s.coefficient) + weight (drop (i + 1) ts) ≡ weight ts
weight_next ts i n s e before = omega (arith, term_light ts i s e, before)

-- a machine integer holds the absolute value of a coefficient
pub abs_within : (ts : List Summand) (i : ℕ) (z : ℤ) (fs : List ℕ) (n m : ℕ) → slice_get ts i ≡ Some (record { coefficient = z; factors = fs }) → m ≡ unsigned_abs (to_z w128 (of_z w128 z)) →
    n + weight (drop i ts) ≡ weight ts → weight ts ≤ 2 ^ 62 → (m ≡ unsigned_abs z) × (n + m ≤ 2 ^ 62)
abs_within ts i z fs n m at is before light =
    let e = term_light ts i (record { coefficient = z; factors = fs }) at in
    let small : unsigned_abs z ≤ 2 ^ 126 = omega (arith, e, before, light) in
    let same : m ≡ unsigned_abs z = is ∙ ap unsigned_abs (to_z-of_z w128 z (light_fits z small)) in
    (same, omega (arith, same, e, before, light))

pub weight_past : (ts : List Summand) (i n : ℕ) → slice_get ts i ≡ None → i < length ts → n + weight (drop (i + 1) ts) ≡ weight ts
weight_past ts i n e within = absurd (omega (arith, past_place ts i e, within))

pub weight_last : (ts : List Summand) (i n : ℕ) → length ts ≤ i → n + weight (drop i ts) ≡ weight ts → n ≡ weight ts
weight_last ts i n past before = let e = ap weight (none_after ts i past) in omega (arith, e, before)

pub noted_next : (ts : List Summand) (i : ℕ) (s : Summand) (seen more all : List ℕ) → slice_get ts i ≡ Some s → more ≡ note_factors seen s.factors → note_terms seen (drop i ts) ≡ all → note_terms more (drop (i + 1) ts) ≡ all
noted_next ts i s seen more all e grown before =
    ap (λ l. note_terms l (drop (i + 1) ts)) grown ∙ sym (ap (note_terms seen) (at_place ts i s e)) ∙ before

pub noted_past : (ts : List Summand) (i : ℕ) (seen all : List ℕ) → slice_get ts i ≡ None → i < length ts → note_terms seen (drop (i + 1) ts) ≡ all
noted_past ts i seen all e within = absurd (omega (arith, past_place ts i e, within))

pub noted_last : (ts : List Summand) (i : ℕ) (seen all : List ℕ) → length ts ≤ i → note_terms seen (drop i ts) ≡ all → seen ≡ all
noted_last ts i seen all past before = ap (note_terms seen) (sym (none_after ts i past)) ∙ before

-- ---- weights over one denominator

-- over a multiple of both denominators
over_more : (v d w e k m n : ℕ) → 0 < d → 0 < e → v * e ≤ w * d → k * d ≡ n → m * e ≡ n → v * k ≤ w * m
over_more v d w e k m n p q l f g =
    let h : v * e * n ≤ w * d * n = mul-le-mul_right n l in
    let a : v * e * (k * d) ≡ v * e * n = ap (λ x. v * e * x) f in
    let b : w * d * (m * e) ≡ w * d * n = ap (λ x. w * d * x) g in
    le_of_mul-le-mul_right (let i : v * k * (d * e) ≤ w * m * (d * e) = omega arith in i) (some_product d e p q)

-- over a greater multiple
over_greater : (v d m n : ℕ) → 0 < d → Divides d m → Divides d n → m ≤ n → v * (m / d) ≤ v * (n / d)
over_greater v d m n p h i l =
    let a : m / d * d ≡ m = divides_exact d m h in
    let b : n / d * d ≡ n = divides_exact d n i in
    let c : m / d ≤ n / d = le_of_mul-le-mul_right (let j : m / d * d ≤ n / d * d = omega arith in j) p in
    mul-le-mul_left v c

-- ---- one more width

both_inside : (ys : List ℕ) (p q : List Summand) → FactorsIn ys p → AllIn (note_terms ys q) (note_terms (note_terms [] p) q)
both_inside ys p q h =
    terms_in (note_terms ys q) (note_terms [] p) q (terms_in (note_terms ys q) [] p tt (in_keep ys q p h)) (terms_have ys q)

-- the denominator of all parts and of one more
abbrev common : rules.Total → Polynomial → ℕ
common x p = least_common_multiple x.denominator p.denominator

-- and what they weigh over it
abbrev weighed : rules.Total → Polynomial → ℕ
weighed x p = x.weight * (common x p / x.denominator) + weight_over (common x p) p

sum_of : (sign : Sign) (x : rules.Total) (p : Polynomial) → (adds sign x p).sum ≡ added sign x.sum p
sum_of Plus x p = refl
sum_of Minus x p = refl

weight_of : (sign : Sign) (x : rules.Total) (p : Polynomial) → (adds sign x p).weight ≡ weighed x p
weight_of Plus x p = refl
weight_of Minus x p = refl

denominator_of : (sign : Sign) (x : rules.Total) (p : Polynomial) → (adds sign x p).denominator ≡ common x p
denominator_of Plus x p = refl
denominator_of Minus x p = refl

atoms_of : (sign : Sign) (x : rules.Total) (p : Polynomial) → (adds sign x p).atoms ≡ note_terms x.atoms p.terms
atoms_of Plus x p = refl
atoms_of Minus x p = refl

step_of : (sign : Sign) (x : rules.Total) (p : Polynomial) → IsPolynomial p → Step x (adds sign x p)
step_of Plus x p i = step_plus x p i
step_of Minus x p i = step_minus x p i

-- the sum so far and one more width are within the limits where all parts together are
module _ (x : rules.Total) (p : Polynomial) (c : Counts x) (i : IsPolynomial p) where
  sum_divides : Divides x.sum.denominator (common x p)
  sum_divides = divides_trans x.sum.denominator x.denominator (common x p) c.divides (multiple_left x.denominator p.denominator)

  less_common : sum_denominator x.sum p ≤ common x p
  less_common =
      least_most x.sum.denominator p.denominator c.held.lowest.positive i.lowest.positive (common x p)
      (multiple_some x.denominator p.denominator c.some i.lowest.positive) sum_divides (multiple_right x.denominator p.denominator)

  part_lighter : weight x.sum.terms * (common x p / x.sum.denominator) ≤ x.weight * (common x p / x.denominator)
  part_lighter =
      over_more (weight x.sum.terms) x.sum.denominator x.weight x.denominator (common x p / x.sum.denominator) (common x p / x.denominator) (common x p)
      c.held.lowest.positive c.some c.lighter (divides_exact x.sum.denominator (common x p) sum_divides)
      (divides_exact x.denominator (common x p) (multiple_left x.denominator p.denominator))

  both_light : weighed x p ≤ 2 ^ 62 → weight_over (sum_denominator x.sum p) x.sum + weight_over (sum_denominator x.sum p) p ≤ 2 ^ 62
  both_light light =
      let n = sum_denominator x.sum p in
      let left = multiple_left x.sum.denominator p.denominator in
      let right = multiple_right x.sum.denominator p.denominator in
      let all = multiple_right x.denominator p.denominator in
      let a = over_greater (weight x.sum.terms) x.sum.denominator n (common x p) c.held.lowest.positive left sum_divides less_common in
      let b = over_greater (weight p.terms) p.denominator n (common x p) i.lowest.positive right all less_common in
      let d = part_lighter in
      omega (arith, a, b, d, light)

  both_fit : weighed x p ≤ 2 ^ 62 → length (note_terms x.atoms p.terms) ≤ 8 → common x p ≤ 2 ^ 16 → SumFits x.sum p
  both_fit light few fine =
      let distinct = distinct_terms (note_terms [] x.sum.terms) p.terms (distinct_terms [] x.sum.terms tt) in
      let inside = both_inside x.atoms x.sum.terms p.terms c.inside in
      let no_more = pigeonhole (atoms_of_both x.sum.terms p.terms) (note_terms x.atoms p.terms) distinct inside in
      record { light = both_light light; few = omega (arith, few, no_more); fine = omega (arith, less_common, fine) }

-- ---- the sums of the code

-- the denominator of all parts and of one more
abbrev pub raised_denominator : Within → Polynomial → ℕ
raised_denominator w p = least_common_multiple w.denominator p.denominator

-- and what they weigh over it
abbrev pub raised_weight : Within → Polynomial → ℕ
raised_weight w p = w.weight * (raised_denominator w p / w.denominator) + weight p.terms * (raised_denominator w p / p.denominator)

pub common_as : (w : Within) (p : Polynomial) (d n : ℕ) → d ≡ p.denominator → n ≡ least_common_multiple w.denominator d
    → n ≡ raised_denominator w p
common_as w p d n e f = f ∙ ap (least_common_multiple w.denominator) e

pub common_some : (d e n : ℕ) → 0 < d → 0 < e → n ≡ least_common_multiple d e → 0 < n
common_some d e n sd se h = subst (λ m. 0 < m) (sym h) (multiple_some d e sd se)

pub raised_as : (w : Within) (p : Polynomial) (d n v : ℕ) → d ≡ p.denominator → n ≡ least_common_multiple w.denominator d
    → v ≡ weight p.terms → w.weight * (n / w.denominator) + v * (n / d) ≡ raised_weight w p
raised_as w p d n v e f g =
    let k = common_as w p d n e f in
    let m = raised_denominator w p in
    ap₂ (λ x y. w.weight * (x / w.denominator) + v * (x / y)) k e
    ∙ ap (λ z. w.weight * (m / w.denominator) + z * (m / p.denominator)) g

module _ (w : Within) (x : rules.Total) (p : Polynomial) (h : IsWithin w x) where
  same_common : raised_denominator w p ≡ common x p
  same_common = ap (λ d. least_common_multiple d p.denominator) h.over

  same_weighed : raised_weight w p ≡ weighed x p
  same_weighed =
      let n = λ (d : ℕ). least_common_multiple d p.denominator in
      ap₂ (λ m d. m * (n d / d) + weight p.terms * (n d / p.denominator)) h.weighs h.over

  same_noted : note_terms w.atoms p.terms ≡ note_terms x.atoms p.terms
  same_noted = ap (λ l. note_terms l p.terms) h.atoms

  pub fits : IsPolynomial p → raised_weight w p ≤ 2 ^ 62 → length (note_terms w.atoms p.terms) ≤ 8 → raised_denominator w p ≤ 2 ^ 16
      → SumFits w.sum p
  fits i light few fine =
      let lighter = subst (λ m. m ≤ 2 ^ 62) same_weighed light in
      let fewer = subst (λ (l : List ℕ). length l ≤ 8) same_noted few in
      let coarser = subst (λ m. m ≤ 2 ^ 16) same_common fine in
      subst (λ s. SumFits s p) (sym h.sum) (both_fit x p h.counts i lighter fewer coarser)

  pub within : (v : Within) (sign : Sign) → IsPolynomial p → v.sum ≡ added sign w.sum p → v.weight ≡ raised_weight w p
      → v.denominator ≡ raised_denominator w p → v.atoms ≡ note_terms w.atoms p.terms → v.weight ≤ 2 ^ 62 → length v.atoms ≤ 8
      → v.denominator ≤ 2 ^ 16 → IsWithin v (adds sign x p)
  within v sign i s n d a light few fine =
      let weighs : v.weight ≡ (adds sign x p).weight = n ∙ same_weighed ∙ sym (weight_of sign x p) in
      let over : v.denominator ≡ (adds sign x p).denominator = d ∙ same_common ∙ sym (denominator_of sign x p) in
      let atoms : v.atoms ≡ (adds sign x p).atoms = a ∙ same_noted ∙ sym (atoms_of sign x p) in
      let f : Fits (adds sign x p) = record {
        light = subst (λ m. m ≤ 2 ^ 62) weighs light;
        few = subst (λ (l : List ℕ). length l ≤ 8) atoms few;
        fine = subst (λ m. m ≤ 2 ^ 16) over fine;
      } in
      record {
        sum = s ∙ ap (λ q. added sign q p) h.sum ∙ sym (sum_of sign x p);
        weighs = weighs;
        over = over;
        atoms = atoms;
        fits = f;
        counts = (step_of sign x p i).keeps h.counts f;
      }

pub too_large : {Fits : Type 0} (m : Polynomial) (r : Result Polynomial PolyRefused) → Gives Fits m r → r ≡ Err TooLarge → Fits → ⊥
too_large {Fits} m r g e = subst (Gives Fits m) e g

-- a weight over a denominator of which its own is a divisor
pub raised_light : (v n d : ℕ) → v ≤ 2 ^ 62 → n ≤ 2 ^ 16 → v * (n / d) ≤ 2 ^ 78
raised_light v n d h k =
    let a : n / d ≤ 2 ^ 16 = omega (arith, div-le_self n d, k) in
    let b : v * (n / d) ≤ 2 ^ 62 * (n / d) = mul-le-mul_right (n / d) h in
    omega (arith, a, b)

-- ---- past the limits

-- the test of the limits
abbrev in_limits : ℕ → ℕ → ℕ → Bool
in_limits w n d = nat_le w heaviest && (nat_le n most_atoms && nat_le d finest)

limits_kept : (w n d : ℕ) → w ≤ 2 ^ 62 → n ≤ 8 → d ≤ 2 ^ 16 → in_limits w n d ≡ true
limits_kept w n d h k l = grind (arith, nat_tests, h, k, l)

fits_test : (x : rules.Total) → Fits x → in_limits x.weight (length x.atoms) x.denominator ≡ true
fits_test x f = limits_kept x.weight (length x.atoms) x.denominator f.light f.few f.fine

kept_so : (n k : ℕ) → nat_le n k ≡ true → n ≤ k
kept_so n k e = grind (arith, nat_tests, e)

test_fits : (x : rules.Total) → in_limits x.weight (length x.atoms) x.denominator ≡ true → Fits x
test_fits x e =
    let p = both (nat_le x.weight heaviest) (nat_le (length x.atoms) most_atoms && nat_le x.denominator finest) e in
    let q = both (nat_le (length x.atoms) most_atoms) (nat_le x.denominator finest) p.1 in
    record { light = kept_so x.weight heaviest p.0; few = kept_so (length x.atoms) most_atoms q.0; fine = kept_so x.denominator finest q.1 }

fails : (b : Bool) → (b ≡ true → ⊥) → b ≡ false
fails false h = refl
fails true h = absurd (h refl)

past_by : (y : rules.Total) → 0 < y.denominator → (Fits y → ⊥) → IsPast y
past_by y some n = record { positive = some; past = fails (in_limits y.weight (length y.atoms) y.denominator) (λ e. n (test_fits y e)) }

too_much : (w n d : ℕ) → (2 ^ 62 < w) ⊎ ((8 < n) ⊎ (2 ^ 16 < d)) → w ≤ 2 ^ 62 → n ≤ 8 → d ≤ 2 ^ 16 → ⊥
too_much w n d (inl h) k l m = omega (arith, h, k)
too_much w n d (inr (inl h)) k l m = omega (arith, h, l)
too_much w n d (inr (inr h)) k l m = omega (arith, h, m)

pub past : (w : Within) (x : rules.Total) (sign : Sign) (p : Polynomial) → IsWithin w x → IsPolynomial p
    → (2 ^ 62 < raised_weight w p) ⊎ ((8 < length (note_terms w.atoms p.terms)) ⊎ (2 ^ 16 < raised_denominator w p)) → IsPast (adds sign x p)
past w x sign p h i over =
    let weighs : (adds sign x p).weight ≡ raised_weight w p = weight_of sign x p ∙ sym (same_weighed w x p h) in
    let atoms : (adds sign x p).atoms ≡ note_terms w.atoms p.terms = atoms_of sign x p ∙ sym (same_noted w x p h) in
    let fine : (adds sign x p).denominator ≡ raised_denominator w p = denominator_of sign x p ∙ sym (same_common w x p h) in
    past_by (adds sign x p) ((step_of sign x p i).some h.counts.some)
    (λ f. too_much (raised_weight w p) (length (note_terms w.atoms p.terms)) (raised_denominator w p) over
    (subst (λ m. m ≤ 2 ^ 62) weighs f.light) (subst (λ (l : List ℕ). length l ≤ 8) atoms f.few) (subst (λ m. m ≤ 2 ^ 16) fine f.fine))

still_past : (x : rules.Total) → IsPast x → Fits x → ⊥
still_past x h f = let e : true ≡ false = sym (fits_test x f) ∙ h.past in cc

pub past_stays : (x : rules.Total) (sign : Sign) (p : Polynomial) → IsPolynomial p → IsPast x → IsPast (adds sign x p)
past_stays x sign p i h =
    let s = step_of sign x p i in
    past_by (adds sign x p) (s.some h.positive) (λ f. still_past x h (s.back h.positive f))

-- ---- numbers

number_atoms : (n : ℕ) (seen : List ℕ) → note_terms seen (constant_map (pos n)).terms ≡ seen
unfolding constant_map
number_atoms n seen = by (is_zero (pos n)) refl
  where
    by : (b : Bool) → is_zero (pos n) ≡ b → note_terms seen (if is_zero (pos n) then [] else constant_term (pos n) ∷ []) ≡ seen
    by true e = ap (λ c. note_terms seen (if c then [] else constant_term (pos n) ∷ [])) e
    by false e = ap (λ c. note_terms seen (if c then [] else constant_term (pos n) ∷ [])) e

abbrev total_of : Polynomial → ℕ → ℕ → List ℕ → rules.Total
total_of s v d xs = record { sum = s; weight = v; denominator = d; atoms = xs }

same_total : (s : Polynomial) (v w d e : ℕ) (xs ys : List ℕ) → v ≡ w → d ≡ e → xs ≡ ys → total_of s v d xs ≡ total_of s w e ys
same_total s v w d e xs ys f g h = λ i. total_of s (f i) (g i) (h i)

number_over : (v n d m k : ℕ) → 0 < d → m ≡ d → k ≡ 1 → v * (m / d) + n * (m / k) ≡ v + n * d
number_over v n d m k p e f =
    let one : d / d ≡ 1 = div_self p in
    let all : d / 1 ≡ d = div-one d in
    let a : m / d ≡ 1 = ap (λ z. z / d) e ∙ one in
    let b : m / k ≡ d = ap₂ (λ y z. y / z) e f ∙ all in
    let c : v * (m / d) ≡ v * 1 = ap (λ z. v * z) a in
    let g : n * (m / k) ≡ n * d = ap (λ z. n * z) b in
    omega arith

multiple_with_one : (d : ℕ) → 0 < d → least_common_multiple d 1 ≡ d
multiple_with_one d p = le_antisymm (least_most d 1 p (omega arith) d p (mod_self d) (mod-one d)) (multiple_most d 1 p (omega arith))

common_number : (x : rules.Total) (z : ℤ) → 0 < x.denominator → common x (constant_map z) ≡ x.denominator
common_number x z some = ap (least_common_multiple x.denominator) (denominator_constant_map z) ∙ multiple_with_one x.denominator some

pub number_is : (x : rules.Total) (n : ℕ) → 0 < x.denominator → rules.plus x (constant_map (pos n)) ≡ rules.plus_number x n
number_is x n some =
    let c = constant_map (pos n) in
    let e = common_number x (pos n) some in
    same_total (sum_map x.sum c) (weighed x c) (x.weight + n * x.denominator) (common x c) x.denominator (note_terms x.atoms c.terms) x.atoms
    (ap (λ m. x.weight * (common x c / x.denominator) + m * (common x c / c.denominator)) (number_weight n)
    ∙ number_over x.weight n x.denominator (common x c) c.denominator some e (denominator_constant_map (pos n)))
    e (number_atoms n x.atoms)

total_some : (w : Option Within) (x : rules.Total) → IsTotalOf w x → 0 < x.denominator
total_some None x h = h.positive
total_some (Some w) x h = h.counts.some

-- the sum with a number is the sum with its width
with_number : (t u : Option Within) (x : rules.Total) (n : ℕ) (p : Polynomial) → p ≡ constant_map (pos n) → IsTotalOf t x
    → IsTotalOf u (adds Plus x p) → IsTotalOf u (rules.plus_number x n)
with_number t u x n p e h k = subst (IsTotalOf u) (ap (rules.plus x) e ∙ number_is x n (total_some t x h)) k

pub number_answer : {E : Type 0} (t : Option Within) (r : Result Total E) (x : rules.Total) (n : ℕ) (p : Polynomial) → p ≡ constant_map (pos n)
    → IsTotalOf t x → IfOk r (λ u. IsTotal u (adds Plus x p)) → IfOk r (λ u. IsTotal u (rules.plus_number x n))
number_answer t (Ok u) x n p e h k = with_number t u.within x n p e h k
number_answer t (Err z) x n p e h k = tt

pub nothing : (w : Within) → w.sum ≡ constant_map (pos 0) → w.weight ≡ 0 → w.denominator ≡ 1 → w.atoms ≡ [] → IsWithin w no_width
nothing w s n d a = record {
  sum = s;
  weighs = n;
  over = d;
  atoms = a;
  fits = record { light = omega arith; few = omega arith; fine = omega arith };
  counts = begun;
}

-- ---- the width at the end

pub done : (w : Within) (x : rules.Total) (span : Span) → IsWithin w x → rules.totalled span x ≡ Ok w.sum
done w x span h = ap (λ b. need b T20 span >> Ok x.sum) (fits_test x h.fits) ∙ ap Ok (sym h.sum)

pub over : (x : rules.Total) (span : Span) → IsPast x → rules.totalled span x ≡ Err (fault_of T20 span)
over x span h = ap (λ b. need b T20 span >> Ok x.sum) h.past
