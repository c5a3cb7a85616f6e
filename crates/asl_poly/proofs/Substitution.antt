-- The result of `substitute`: its value, its limits and its loops.
use Rattle.std.proofs.Common.{◌⊎◌, inl, inr, ◌≡◌, ℕ, ◌+◌, ◌*◌, ◌<◌, ◌≤◌, ◌/◌, ◌^◌, ◌≢◌, min, zero, suc, List, [], ◌∷◌, ◌==◌, length, drop, refl, sym, subst, ◌∙◌, ap, arith, slice_index_or}
use Rattle.std.specs.Prelude.{unsigned_abs}
use Rattle.std.specs.declared.cmp.Ordering.{Ordering}
use Rattle.std.specs.declared.cmp.Ordering.TheVariants.{Less, Equal, Greater}
use Rattle.std.proofs.Math.IntN.{ℤ, pos, ◌+ℤ◌, ◌*ℤ◌, +ℤ_idl, *ℤ_comm, zero-*ℤ, pos-*ℤ-pos}
use Rattle.std.proofs.Math.Nat.{mul-le-mul_left, mul-le-mul_right, mul_assoc, mod_self, div-le_self, pow-le-pow_right}
use Rattle.std.proofs.lemmas.Int.{ints, unsigned_abs-mul}
use Rattle.std.proofs.lemmas.List.{drop_all}
use Rattle.std.proofs.lemmas.Bool.{cases_Bool}
use Rattle.asl_poly.specs.Terms.{Polynomial, Summand, Sorted, AllBelow, value, product, order}
use Rattle.asl_poly.specs.Limits.{IsMap, weight, degree, note_terms}
use Rattle.asl_poly.specs.Operations.{gather, scaled, constant_term, multiply, product_terms, atom_terms, insert, placed, joined, is_zero}
use Rattle.asl_poly.specs.Substitute.{map_at, AreMaps, AllMaps, factors_weight, replaced_weight, factors_degree, replaced_degree, note_maps, note_replaced, times_maps, replaced, replaced_at, denominator_at, factors_denominator, common_denominator_from, common_denominator, raised_terms, with_common_denominator, AllFine, ReplacedFits}
use Rattle.asl_poly.specs.Denominators.{Divides, least_common_multiple, lowest}
use Rattle.asl_poly.specs.Fractions.{Fraction, SameFraction, fraction_at, worth, product_of, sum_of}
use Rattle.asl_poly.specs.Poly.{IsPolynomial}
use Rattle.asl_poly.proofs.Ring.{one-mul, mul-one, add-mul, swap_last, mul_assoc as mul_assocℤ}
use Rattle.asl_poly.proofs.Values.{value-gather, value-multiply}
use Rattle.asl_poly.proofs.ProductLoops.{next}
use Rattle.std.proofs.lemmas.Nat.{mul-le}
use Rattle.asl_poly.proofs.Divisors.{divides_exact, divides_trans, divides_le, multiple_left, multiple_right, multiple_some, raised_some}
use Rattle.asl_poly.proofs.LowestTerms.{lowest_same, cancel_one}
use Rattle.asl_poly.proofs.NormalForm.{nonzero_mul, all_sorted, sorted_gather, length_all, weight_gather, weight_multiply}
use Rattle.asl_poly.proofs.Atoms.{In, AllIn, FactorsIn, terms_have, terms_keep, gather_in, multiply_in, atoms_few}
use Rattle.asl_poly.proofs.Maps.{multiply_sorted, cross}

-- ---- values

-- the number of what stands for the atom, over its denominator
abbrev pub number_at : (ℕ → ℤ) → List (ℕ × Polynomial) → ℕ → ℤ
number_at a by x = value a (map_at by x)

value_times : (a : ℕ → ℤ) (by : List (ℕ × Polynomial)) (acc : List Summand) (xs : List ℕ)
    → value a (times_maps by acc xs) ≡ value a acc *ℤ product (number_at a by) xs
value_times a by acc [] = sym (mul-one (value a acc))
value_times a by acc (x ∷ xs) =
    rw (value_times a by (product_terms acc (map_at by x)) xs, value-multiply a [] acc (map_at by x), +ℤ_idl (value a acc *ℤ value a (map_at by x)))
    (mul_assocℤ (value a acc) (value a (map_at by x)) (product (number_at a by) xs))

value_unit : (a : ℕ → ℤ) (c : ℤ) → value a (constant_term c ∷ []) ≡ c
value_unit a c = rw (mul-one c) (omega (arith, ints))

pub value_replaced : (a : ℕ → ℤ) (by : List (ℕ × Polynomial)) (acc p : List Summand)
    → value a (replaced by acc p) ≡ value a acc +ℤ value (number_at a by) p
value_replaced a by acc [] = omega (arith, ints)
value_replaced a by acc (t ∷ p) =
    rw (value_replaced a by (gather acc (times_maps by (constant_term t.coefficient ∷ []) t.factors)) p, value-gather a acc (times_maps by (constant_term t.coefficient ∷ []) t.factors), value_times a by (constant_term t.coefficient ∷ []) t.factors, value_unit a t.coefficient)
    (omega (arith, ints))

-- ---- the form

pub atom_is_map : (x : ℕ) → IsMap (atom_terms x)
atom_is_map x = record {
  sorted = (record { counts = λ e. cc; falls = (tt, tt); degree = omega arith }, tt, tt);
  light = omega arith;
  few = omega arith;
}

degree_joined : (c : ℤ) (t : Summand) (ts : List Summand) (n : ℕ) → length t.factors ≤ n → degree ts ≤ n → degree (joined c t ts) ≤ n
degree_joined c t ts n h k = elim (cases_Bool (is_zero c)) [ inl z ↦ rw z k | inr z ↦ rw z (omega arith) ]

degree_placed : (o : Ordering) (s t : Summand) (ts us : List Summand) (n : ℕ) → length s.factors ≤ n → length t.factors ≤ n → degree ts ≤ n → degree us ≤ n → degree (placed o s t ts us) ≤ n
degree_placed Less s t ts us n h k l m = omega arith
degree_placed Equal s t ts us n h k l m = degree_joined (s.coefficient +ℤ t.coefficient) t ts n k l
degree_placed Greater s t ts us n h k l m = omega arith

degree_insert : (s : Summand) (ts : List Summand) (n : ℕ) → length s.factors ≤ n → degree ts ≤ n → degree (insert s ts) ≤ n
degree_insert s [] n h k = omega arith
degree_insert s (t ∷ ts) n h k = degree_placed (order s.factors t.factors) s t ts (insert s ts) n h (omega arith) (omega arith) (degree_insert s ts n h (omega arith))

degree_gather : (acc ts : List Summand) (n : ℕ) → degree acc ≤ n → degree ts ≤ n → degree (gather acc ts) ≤ n
degree_gather acc [] n h k = h
degree_gather acc (t ∷ ts) n h k = degree_gather (insert t acc) ts n (degree_insert t acc n (omega arith) h) (omega arith)

degree_scaled : (s : Summand) (ts : List Summand) (n : ℕ) → length s.factors + degree ts ≤ n → degree (scaled s ts) ≤ n
degree_scaled s [] n h = omega arith
degree_scaled s (t ∷ ts) n h = omega (arith, length_all s.factors t.factors, degree_scaled s ts n (omega arith))

degree_multiply : (acc p q : List Summand) (n : ℕ) → degree acc ≤ n → degree p + degree q ≤ n → degree (multiply acc p q) ≤ n
degree_multiply acc [] q n h k = h
degree_multiply acc (s ∷ p) q n h k = degree_multiply (gather acc (scaled s q)) p q n (degree_gather acc (scaled s q) n h (degree_scaled s q n (omega arith))) (omega arith)

times_sorted : (by : List (ℕ × Polynomial)) (acc : List Summand) (xs : List ℕ) → AreMaps by xs → Sorted acc → degree acc + factors_degree by xs ≤ 4 → Sorted (times_maps by acc xs)
times_sorted by acc [] m h l = h
times_sorted by acc (x ∷ xs) m h l =
    let k : IsMap (map_at by x) = m.0 in
    let d : degree (multiply [] acc (map_at by x)) ≤ degree acc + degree (map_at by x) = degree_multiply [] acc (map_at by x) (degree acc + degree (map_at by x)) (omega arith) (omega arith) in
    times_sorted by (product_terms acc (map_at by x)) xs m.1 (multiply_sorted [] acc (map_at by x) tt (all_sorted acc h) (all_sorted (map_at by x) k.sorted) (omega arith)) (omega arith)

replaced_sorted : (by : List (ℕ × Polynomial)) (acc p : List Summand) → AllMaps by p → Sorted acc → Sorted p → replaced_degree by p ≤ 4 → Sorted (replaced by acc p)
replaced_sorted by acc [] m h k l = h
replaced_sorted by acc (t ∷ p) m h k l =
    let s : Sorted (times_maps by (constant_term t.coefficient ∷ []) t.factors) = times_sorted by (constant_term t.coefficient ∷ []) t.factors m.0 (record { counts = k.0.counts; falls = tt; degree = omega arith }, tt, tt) (omega arith) in
    replaced_sorted by (gather acc (times_maps by (constant_term t.coefficient ∷ []) t.factors)) p m.1 (sorted_gather acc (times_maps by (constant_term t.coefficient ∷ []) t.factors) h (all_sorted (times_maps by (constant_term t.coefficient ∷ []) t.factors) s)) k.2 (omega arith)

pub times_weight : (by : List (ℕ × Polynomial)) (acc : List Summand) (xs : List ℕ) → weight (times_maps by acc xs) ≤ weight acc * factors_weight by xs
times_weight by acc [] = omega arith
times_weight by acc (x ∷ xs) =
    let i : weight (times_maps by (multiply [] acc (map_at by x)) xs) ≤ weight (multiply [] acc (map_at by x)) * factors_weight by xs = times_weight by (product_terms acc (map_at by x)) xs in
    let w : weight (multiply [] acc (map_at by x)) ≤ weight acc * weight (map_at by x) = omega (arith, weight_multiply [] acc (map_at by x)) in
    let m : weight (multiply [] acc (map_at by x)) * factors_weight by xs ≤ weight acc * weight (map_at by x) * factors_weight by xs = mul-le-mul_right (factors_weight by xs) w in
    omega arith

pub replaced_light : (by : List (ℕ × Polynomial)) (acc p : List Summand) → weight (replaced by acc p) ≤ weight acc + replaced_weight by p
replaced_light by acc [] = omega arith
replaced_light by acc (t ∷ p) =
    omega (arith, replaced_light by (gather acc (times_maps by (constant_term t.coefficient ∷ []) t.factors)) p, weight_gather acc (times_maps by (constant_term t.coefficient ∷ []) t.factors), times_weight by (constant_term t.coefficient ∷ []) t.factors)

-- ---- atoms

maps_keep : (by : List (ℕ × Polynomial)) (z : ℕ) (seen xs : List ℕ) → In z seen → In z (note_maps by seen xs)
maps_keep by z seen [] i = i
maps_keep by z seen (x ∷ xs) i = maps_keep by z (note_terms seen (map_at by x)) xs (terms_keep z seen (map_at by x) i)

replaced_keep : (by : List (ℕ × Polynomial)) (z : ℕ) (seen : List ℕ) (p : List Summand) → In z seen → In z (note_replaced by seen p)
replaced_keep by z seen [] i = i
replaced_keep by z seen (t ∷ p) i = replaced_keep by z (note_maps by seen t.factors) p (maps_keep by z seen t.factors i)

-- the atoms of all that stands for xs
abbrev pub MapsIn : List (ℕ × Polynomial) → List ℕ → List ℕ → Type 0
MapsIn by ys [] = Unit {0}
MapsIn by ys (x ∷ xs) = FactorsIn ys (map_at by x) × MapsIn by ys xs

abbrev pub TermsIn : List (ℕ × Polynomial) → List ℕ → List Summand → Type 0
TermsIn by ys [] = Unit {0}
TermsIn by ys (t ∷ p) = MapsIn by ys t.factors × TermsIn by ys p

all_more : (ys zs xs : List ℕ) → ((z : ℕ) → In z ys → In z zs) → AllIn ys xs → AllIn zs xs
all_more ys zs [] f h = tt
all_more ys zs (x ∷ xs) f h = (f x h.0, all_more ys zs xs f h.1)

factors_more : (ys zs : List ℕ) (ts : List Summand) → ((z : ℕ) → In z ys → In z zs) → FactorsIn ys ts → FactorsIn zs ts
factors_more ys zs [] f h = tt
factors_more ys zs (t ∷ ts) f h = (all_more ys zs t.factors f h.0, factors_more ys zs ts f h.1)

maps_more : (by : List (ℕ × Polynomial)) (ys zs xs : List ℕ) → ((z : ℕ) → In z ys → In z zs) → MapsIn by ys xs → MapsIn by zs xs
maps_more by ys zs [] f h = tt
maps_more by ys zs (x ∷ xs) f h = (factors_more ys zs (map_at by x) f h.0, maps_more by ys zs xs f h.1)

maps_have : (by : List (ℕ × Polynomial)) (seen xs : List ℕ) → MapsIn by (note_maps by seen xs) xs
maps_have by seen [] = tt
maps_have by seen (x ∷ xs) = (
  factors_more (note_terms seen (map_at by x)) (note_maps by (note_terms seen (map_at by x)) xs) (map_at by x) (λ z i. maps_keep by z (note_terms seen (map_at by x)) xs i) (terms_have seen (map_at by x)),
  maps_have by (note_terms seen (map_at by x)) xs,
)

replaced_have : (by : List (ℕ × Polynomial)) (seen : List ℕ) (p : List Summand) → TermsIn by (note_replaced by seen p) p
replaced_have by seen [] = tt
replaced_have by seen (t ∷ p) = (
  maps_more by (note_maps by seen t.factors) (note_replaced by (note_maps by seen t.factors) p) t.factors (λ z i. replaced_keep by z (note_maps by seen t.factors) p i) (maps_have by seen t.factors),
  replaced_have by (note_maps by seen t.factors) p,
)

times_in : (by : List (ℕ × Polynomial)) (ys : List ℕ) (acc : List Summand) (xs : List ℕ) → FactorsIn ys acc → MapsIn by ys xs → FactorsIn ys (times_maps by acc xs)
times_in by ys acc [] h k = h
times_in by ys acc (x ∷ xs) h k = times_in by ys (product_terms acc (map_at by x)) xs (multiply_in ys [] acc (map_at by x) tt h k.0) k.1

replaced_in : (by : List (ℕ × Polynomial)) (ys : List ℕ) (acc p : List Summand) → FactorsIn ys acc → TermsIn by ys p → FactorsIn ys (replaced by acc p)
replaced_in by ys acc [] h k = h
replaced_in by ys acc (t ∷ p) h k =
    replaced_in by ys (gather acc (times_maps by (constant_term t.coefficient ∷ []) t.factors)) p (gather_in ys acc (times_maps by (constant_term t.coefficient ∷ []) t.factors) h (times_in by ys (constant_term t.coefficient ∷ []) t.factors (tt, tt) k.0)) k.1

pub substituted_map : (by : List (ℕ × Polynomial)) (p : List Summand) → AllMaps by p → Sorted p → ReplacedFits by p
    → IsMap (replaced by [] p)
substituted_map by p m h f =
    let i : FactorsIn (note_replaced by [] p) (replaced by [] p) = replaced_in by (note_replaced by [] p) [] p tt (replaced_have by [] p) in
    record {
      sorted = replaced_sorted by [] p m tt h f.low;
      light = omega (arith, replaced_light by [] p, f.light);
      few = omega (arith, atoms_few (note_replaced by [] p) (replaced by [] p) i, f.few);
    }

-- ---- a factor of weight 0

multiply_nothing : (acc p : List Summand) → multiply acc p [] ≡ acc
multiply_nothing acc [] = refl
multiply_nothing acc (s ∷ p) = multiply_nothing acc p

times_nothing : (by : List (ℕ × Polynomial)) (xs : List ℕ) → times_maps by [] xs ≡ []
times_nothing by [] = refl
times_nothing by (x ∷ xs) = times_nothing by xs

no_weight : (z : ℤ) → unsigned_abs z ≡ 0 → z ≡ pos 0
no_weight z e = omega (arith, ints)

zero_factor : (m n : ℕ) → m * n ≡ 0 → (m ≡ 0) ⊎ (n ≡ 0)
zero_factor zero n e = inl refl
zero_factor (suc m) n e = inr (omega arith)

weightless : (ts : List Summand) → Sorted ts → weight ts ≡ 0 → ts ≡ []
weightless [] h e = refl
weightless (t ∷ ts) h e = absurd (h.0.counts (no_weight t.coefficient (omega arith)))

pub times_zero : (by : List (ℕ × Polynomial)) (acc : List Summand) (xs : List ℕ) → AreMaps by xs → factors_weight by xs ≡ 0 → times_maps by acc xs ≡ []
times_zero by acc [] m e = absurd (omega arith)
times_zero by acc (x ∷ xs) m e = elim (zero_factor (weight (map_at by x)) (factors_weight by xs) e) [
  | inl z ↦
      let n : map_at by x ≡ [] = weightless (map_at by x) m.0.sorted z in
      rw (n, multiply_nothing [] acc) (times_nothing by xs)
  | inr z ↦ times_zero by (product_terms acc (map_at by x)) xs m.1 z
]

-- ---- numbers that stop at a limit

le_or : (m a : ℕ) → (m ≤ a) ⊎ (a ≤ m)
le_or m a = grind arith

capped_large : (m a b : ℕ) → m ≤ a → min m (m * b) ≡ min m (a * b)
capped_large m a zero l = omega arith
capped_large m a (suc b) l = let h : m * b ≤ a * b = mul-le-mul_right b l in omega arith

pub capped_mul : (m a b : ℕ) → min m (min m a * b) ≡ min m (a * b)
capped_mul m a b = elim (le_or m a) [
  | inl l ↦ let e : min m a ≡ m = omega arith in rw e (capped_large m a b l)
  | inr l ↦ let e : min m a ≡ a = omega arith in rw e refl
]

module _ (by : List (ℕ × Polynomial)) (xs : List ℕ) (x : ℕ) (i : ℕ) (h : drop i xs ≡ x ∷ drop (i + 1) xs) where
  pub weight_next : (m a b w : ℕ) → w ≡ weight (map_at by x) → b ≡ min m (a * w) → min m (a * factors_weight by (drop i xs)) ≡ min m (b * factors_weight by (drop (i + 1) xs))
  weight_next m a b w e f =
      let r : ℕ = factors_weight by (drop (i + 1) xs) in
      let c : min m (min m (a * w) * factors_weight by (drop (i + 1) xs)) ≡ min m (a * w * factors_weight by (drop (i + 1) xs)) = capped_mul m (a * w) (factors_weight by (drop (i + 1) xs)) in
      let g : a * factors_weight by (drop i xs) ≡ a * w * factors_weight by (drop (i + 1) xs) =
      ap (λ ys. a * factors_weight by ys) h ∙ ap (λ n. a * (n * factors_weight by (drop (i + 1) xs))) (sym e) ∙ sym (mul_assoc a w (factors_weight by (drop (i + 1) xs))) in
      rw (g, f) (sym c)

-- ---- for the loops

pub maps_left : (by : List (ℕ × Polynomial)) (xs : List ℕ) (x i : ℕ) → drop i xs ≡ x ∷ drop (i + 1) xs → IsMap (map_at by x) → AreMaps by (drop (i + 1) xs) → AreMaps by (drop i xs)
maps_left by xs x i e h k = rw e (h, k)

pub maps_end : (by : List (ℕ × Polynomial)) (xs : List ℕ) (i : ℕ) → length xs ≤ i → AreMaps by (drop i xs)
maps_end by xs i h = rw (drop_all i xs h) tt

pub terms_left : (by : List (ℕ × Polynomial)) (p : List Summand) (t : Summand) (i : ℕ) → drop i p ≡ t ∷ drop (i + 1) p → AreMaps by t.factors → AllMaps by (drop (i + 1) p) → AllMaps by (drop i p)
terms_left by p t i e h k = rw e (h, k)

pub terms_end : (by : List (ℕ × Polynomial)) (p : List Summand) (i : ℕ) → length p ≤ i → AllMaps by (drop i p)
terms_end by p i h = rw (drop_all i p h) tt

pub length_at : (ts : List Summand) (i : ℕ) (t : Summand) → i < length ts → t ≡ slice_index_or ts i t → length t.factors ≤ degree ts
length_at [] i t h e = absurd (omega arith)
length_at (u ∷ ts) zero t h e = let f : length t.factors ≡ length u.factors = ap (λ v. length v.factors) e in omega arith
length_at (u ∷ ts) (suc i) t h e = omega (arith, length_at ts i t (omega arith) e)

pub positive : (w r : ℕ) → 0 < w * r → (0 < w) × (0 < r)
positive zero r h = absurd (omega arith)
positive (suc w) zero h = absurd (omega arith)
positive (suc w) (suc r) h = (omega arith, omega arith)

room_left : (a w r m : ℕ) → a * (w * r) ≤ m → 0 < r → a * w ≤ m
room_left a w r m h p =
    let e : a * w * 1 ≤ a * w * r = mul-le-mul_left (a * w) (omega arith) in
    let f : a * (w * r) ≡ a * w * r = sym (mul_assoc a w r) in
    omega arith

module _ (by : List (ℕ × Polynomial)) (xs : List ℕ) (x : ℕ) (i m : ℕ) (acc q : List Summand) (h : drop i xs ≡ x ∷ drop (i + 1) xs) (is : q ≡ map_at by x)
    (light : weight acc * factors_weight by (drop i xs) ≤ m) (counts : 0 < factors_weight by (drop i xs)) where
  split_weight : factors_weight by (drop i xs) ≡ weight q * factors_weight by (drop (i + 1) xs)
  split_weight = ap (factors_weight by) h ∙ ap (λ ts. weight ts * factors_weight by (drop (i + 1) xs)) (sym is)

  rest_counts : (0 < weight q) × (0 < factors_weight by (drop (i + 1) xs))
  rest_counts = positive (weight q) (factors_weight by (drop (i + 1) xs)) (rw split_weight at counts)

  pub next_counts : 0 < factors_weight by (drop (i + 1) xs)
  next_counts = rest_counts.1

  pub both_light : weight acc * weight q ≤ m
  both_light = room_left (weight acc) (weight q) (factors_weight by (drop (i + 1) xs)) m (rw split_weight at light) rest_counts.1

  pub left_light : weight acc ≤ m
  left_light = let e : weight acc * 1 ≤ weight acc * weight q = mul-le-mul_left (weight acc) rest_counts.0 in omega (arith, both_light)

  pub next_light : (us : List Summand) → us ≡ product_terms acc q → weight us * factors_weight by (drop (i + 1) xs) ≤ m
  next_light us e =
      let w : weight us ≤ weight acc * weight q = rw e (omega (arith, weight_multiply [] acc q)) in
      let k : weight us * factors_weight by (drop (i + 1) xs) ≤ weight acc * weight q * factors_weight by (drop (i + 1) xs) = mul-le-mul_right (factors_weight by (drop (i + 1) xs)) w in
      let f : weight acc * factors_weight by (drop i xs) ≡ weight acc * weight q * factors_weight by (drop (i + 1) xs) = ap (λ n. weight acc * n) split_weight ∙ sym (mul_assoc (weight acc) (weight q) (factors_weight by (drop (i + 1) xs))) in
      omega (arith, light)

  pub next_times : (us : List Summand) → us ≡ product_terms acc q → times_maps by us (drop (i + 1) xs) ≡ times_maps by acc (drop i xs)
  next_times us e = rw (h, e, is) refl

pub scaled_one : (ts : List Summand) → scaled (constant_term (pos 1)) ts ≡ ts
scaled_one [] = refl
scaled_one (t ∷ ts) = rw (scaled_one ts, one-mul t.coefficient) refl

pub one_more : (by : List (ℕ × Polynomial)) (p acc us : List Summand) (t : Summand) (i m : ℕ) → drop i p ≡ t ∷ drop (i + 1) p → us ≡ gather acc (times_maps by (constant_term t.coefficient ∷ []) t.factors)
    → weight acc + replaced_weight by (drop i p) ≤ m
    → (replaced by us (drop (i + 1) p) ≡ replaced by acc (drop i p)) × (weight us + replaced_weight by (drop (i + 1) p) ≤ m)
one_more by p acc us t i m h e l =
    let w : replaced_weight by (drop i p) ≡ unsigned_abs t.coefficient * factors_weight by t.factors + replaced_weight by (drop (i + 1) p) = ap (replaced_weight by) h in
    let g : weight us ≡ weight (gather acc (times_maps by (constant_term t.coefficient ∷ []) t.factors)) = ap weight e in
    (rw (h, e) refl, omega (arith, weight_gather acc (times_maps by (constant_term t.coefficient ∷ []) t.factors), times_weight by (constant_term t.coefficient ∷ []) t.factors))

-- ---- one denominator for all terms

-- the denominator of each term divides n
abbrev pub AllDivide : List (ℕ × Polynomial) → ℕ → List Summand → Type 0
AllDivide by n [] = Unit {0}
AllDivide by n (t ∷ ts) = Divides (factors_denominator by t.factors) n × AllDivide by n ts

both_some : (m n : ℕ) → 0 < m → 0 < n → 0 < m * n
both_some zero n p q = absurd (omega arith)
both_some (suc m) zero p q = absurd (omega arith)
both_some (suc m) (suc n) p q = omega arith

pub factors_some : (by : List (ℕ × Polynomial)) (xs : List ℕ) → AllFine by → 0 < factors_denominator by xs
factors_some by [] f = omega arith
factors_some by (x ∷ xs) f = both_some (denominator_at by x) (factors_denominator by xs) (f x).0 (factors_some by xs f)

module _ (by : List (ℕ × Polynomial)) (f : AllFine by) where
  pub from_divides : (n : ℕ) (ts : List Summand) → 0 < n → Divides n (common_denominator_from by n ts)
  from_divides n [] p = mod_self n
  from_divides n (t ∷ ts) p =
      divides_trans n (least_common_multiple n (factors_denominator by t.factors))
      (common_denominator_from by (least_common_multiple n (factors_denominator by t.factors)) ts)
      (multiple_left n (factors_denominator by t.factors))
      (from_divides (least_common_multiple n (factors_denominator by t.factors)) ts
      (multiple_some n (factors_denominator by t.factors) p (factors_some by t.factors f)))

  pub from_some : (n : ℕ) (ts : List Summand) → 0 < n → 0 < common_denominator_from by n ts
  from_some n [] p = p
  from_some n (t ∷ ts) p =
      from_some (least_common_multiple n (factors_denominator by t.factors)) ts
      (multiple_some n (factors_denominator by t.factors) p (factors_some by t.factors f))

  pub from_most : (n : ℕ) (ts : List Summand) → 0 < n → n ≤ common_denominator_from by n ts
  from_most n ts p = divides_le n (common_denominator_from by n ts) (from_some n ts p) (from_divides n ts p)

  from_divide : (n : ℕ) (ts : List Summand) → 0 < n → AllDivide by (common_denominator_from by n ts) ts
  from_divide n [] p = tt
  from_divide n (t ∷ ts) p =
      let m : 0 < least_common_multiple n (factors_denominator by t.factors) = multiple_some n (factors_denominator by t.factors) p
      (factors_some by t.factors f) in (
        divides_trans (factors_denominator by t.factors) (least_common_multiple n (factors_denominator by t.factors))
            (common_denominator_from by (least_common_multiple n (factors_denominator by t.factors)) ts)
            (multiple_right n (factors_denominator by t.factors))
            (from_divides (least_common_multiple n (factors_denominator by t.factors)) ts m),
        from_divide (least_common_multiple n (factors_denominator by t.factors)) ts m,
      )

  pub all_divide : (ts : List Summand) → AllDivide by (common_denominator by ts) ts
  all_divide ts = from_divide 1 ts (omega arith)

  pub common_denominator_some : (ts : List Summand) → 0 < common_denominator by ts
  common_denominator_some ts = from_some 1 ts (omega arith)

below_raised : (by : List (ℕ × Polynomial)) (n : ℕ) (ms : List ℕ) (ts : List Summand) → AllBelow ms ts → AllBelow ms (raised_terms by n ts)
below_raised by n ms [] b = tt
below_raised by n ms (t ∷ ts) b = (b.0, below_raised by n ms ts b.1)

some_pos : (k : ℕ) → 0 < k → pos k ≢ pos 0
some_pos zero p = absurd (omega arith)
some_pos (suc k) p = λ e. cc

pub raised_sorted : (by : List (ℕ × Polynomial)) (n : ℕ) (ts : List Summand) → 0 < n → AllDivide by n ts → Sorted ts
    → Sorted (raised_terms by n ts)
raised_sorted by n [] p d h = tt
raised_sorted by n (t ∷ ts) p d h =
    let q : 0 < n / factors_denominator by t.factors = raised_some (factors_denominator by t.factors) n p d.0 in (
      record {
        counts = nonzero_mul (pos (n / factors_denominator by t.factors)) t.coefficient
            (some_pos (n / factors_denominator by t.factors) q) h.0.counts;
        falls = h.0.falls;
        degree = h.0.degree;
      },
      below_raised by n t.factors ts h.1,
      raised_sorted by n ts p d.1 h.2,
    )

pub degree_raised : (by : List (ℕ × Polynomial)) (n : ℕ) (ts : List Summand) → degree (raised_terms by n ts) ≡ degree ts
degree_raised by n [] = refl
degree_raised by n (t ∷ ts) = rw (degree_raised by n ts) refl

quotient_most : (n d m : ℕ) → n ≤ m → n / d ≤ m
quotient_most n d m l = omega (arith, div-le_self n d)

pub weight_raised : (by : List (ℕ × Polynomial)) (n : ℕ) (ts : List Summand) → n ≤ 2 ^ 16
    → weight (raised_terms by n ts) ≤ 2 ^ 16 * weight ts
weight_raised by n [] l = omega arith
weight_raised by n (t ∷ ts) l =
    let a : unsigned_abs (pos (n / factors_denominator by t.factors) *ℤ t.coefficient)
    ≡ n / factors_denominator by t.factors * unsigned_abs t.coefficient =
    unsigned_abs-mul (pos (n / factors_denominator by t.factors)) t.coefficient in
    let b : n / factors_denominator by t.factors * unsigned_abs t.coefficient ≤ 2 ^ 16 * unsigned_abs t.coefficient =
    mul-le-mul_right (unsigned_abs t.coefficient) (quotient_most n (factors_denominator by t.factors) (2 ^ 16) l) in
    omega (arith, weight_raised by n ts l)

-- ---- the result as a fraction

product_number : (a : ℕ → ℤ) (by : List (ℕ × Polynomial)) (xs : List ℕ)
    → (product_of (replaced_at a by) xs).number ≡ product (number_at a by) xs
product_number a by [] = refl
product_number a by (x ∷ xs) = ap (λ z. value a (map_at by x) *ℤ z) (product_number a by xs)

product_denominator : (a : ℕ → ℤ) (by : List (ℕ × Polynomial)) (xs : List ℕ)
    → (product_of (replaced_at a by) xs).denominator ≡ factors_denominator by xs
product_denominator a by [] = refl
product_denominator a by (x ∷ xs) = ap (λ n. denominator_at by x * n) (product_denominator a by xs)

one_term : (k d n : ℕ) (c p o : ℤ) → k * d ≡ n → ((pos k *ℤ c) *ℤ p) *ℤ (pos d *ℤ o) ≡ ((c *ℤ p) *ℤ o) *ℤ pos n
one_term k d n c p o h = ap (λ z. z *ℤ (pos d *ℤ o)) (mul_assocℤ (pos k) c p) ∙ cross k d n (c *ℤ p) o h

rest_terms : (v o m n d : ℤ) → v *ℤ o ≡ m *ℤ n → v *ℤ (d *ℤ o) ≡ (m *ℤ d) *ℤ n
rest_terms v o m n d e =
    let a : v *ℤ (d *ℤ o) ≡ (v *ℤ o) *ℤ d = ap (λ z. v *ℤ z) (*ℤ_comm d o) ∙ sym (mul_assocℤ v o d) in
    a ∙ ap (λ z. z *ℤ d) e ∙ swap_last m n d

one_times : (d o : ℕ) → (1 * d) * o ≡ d * o
one_times d o = omega arith

all_terms : (k d n o : ℕ) (c p v m : ℤ) → k * d ≡ n → v *ℤ pos o ≡ m *ℤ pos n
    → ((pos k *ℤ c) *ℤ p +ℤ v) *ℤ pos ((1 * d) * o) ≡ ((c *ℤ p) *ℤ pos o +ℤ m *ℤ pos (1 * d)) *ℤ pos n
all_terms k d n o c p v m h e =
    let w : pos ((1 * d) * o) ≡ pos d *ℤ pos o = ap pos (one_times d o) ∙ sym (pos-*ℤ-pos d o) in
    let u : pos (1 * d) ≡ pos d = ap pos (let f : 1 * d ≡ d = omega arith in f) in
    rw (
      w,
      u,
      add-mul ((pos k *ℤ c) *ℤ p) v (pos d *ℤ pos o),
      one_term k d n c p (pos o) h,
      rest_terms v (pos o) m (pos n)
          (pos d) e,
      add-mul ((c *ℤ p) *ℤ pos o) (m *ℤ pos d) (pos n),
    ) refl

-- the terms over one denominator are the sum of fractions
raised_value : (a : ℕ → ℤ) (by : List (ℕ × Polynomial)) (n : ℕ) (ts : List Summand) → AllDivide by n ts
    → value (number_at a by) (raised_terms by n ts) *ℤ pos
    (sum_of (replaced_at a by) ts).denominator ≡ (sum_of (replaced_at a by) ts).number *ℤ pos n
raised_value a by n [] h = sym (zero-*ℤ (pos n))
raised_value a by n (t ∷ ts) h =
    let d : n / factors_denominator by t.factors * factors_denominator by t.factors ≡ n =
    divides_exact (factors_denominator by t.factors) n h.0 in
    rw (product_number a by t.factors, product_denominator a by t.factors)
    (all_terms (n / factors_denominator by t.factors) (factors_denominator by t.factors) n
    (sum_of (replaced_at a by) ts).denominator t.coefficient (product (number_at a by) t.factors)
    (value (number_at a by) (raised_terms by n ts)) (sum_of (replaced_at a by) ts).number d (raised_value a by n ts h.1))

times_last : (v o m n d : ℕ) (x y : ℤ) → x *ℤ pos o ≡ y *ℤ pos n → x *ℤ pos (o * d) ≡ y *ℤ pos (n * d)
times_last v o m n d x y e =
    let a : x *ℤ pos (o * d) ≡ (x *ℤ pos o) *ℤ pos d = ap (λ z. x *ℤ z) (sym (pos-*ℤ-pos o d)) ∙ sym (mul_assocℤ x (pos o) (pos d)) in
    let b : (y *ℤ pos n) *ℤ pos d ≡ y *ℤ pos (n * d) = mul_assocℤ y (pos n) (pos d) ∙ ap (λ z. y *ℤ z) (pos-*ℤ-pos n d) in
    a ∙ ap (λ z. z *ℤ pos d) e ∙ b

pub substituted_value : (a : ℕ → ℤ) (by : List (ℕ × Polynomial)) (p : Polynomial) → AllFine by → 0 < p.denominator
    → SameFraction (fraction_at a (lowest (replaced by [] (with_common_denominator by p.terms))
    (common_denominator by p.terms * p.denominator))) (worth (replaced_at a by) p)
substituted_value a by p f l =
    let n : ℕ = common_denominator by p.terms in
    let v : value a (replaced by [] (with_common_denominator by p.terms)) ≡ value (number_at a by) (with_common_denominator by p.terms) =
    value_replaced a by [] (with_common_denominator by p.terms) ∙ +ℤ_idl (value (number_at a by) (with_common_denominator by p.terms)) in
    let e : value a (replaced by [] (with_common_denominator by p.terms)) *ℤ pos (sum_of (replaced_at a by) p.terms).denominator
    ≡ (sum_of (replaced_at a by) p.terms).number *ℤ pos (common_denominator by p.terms) =
    ap (λ z. z *ℤ pos (sum_of (replaced_at a by) p.terms).denominator) v ∙ raised_value a by (common_denominator by p.terms) p.terms
    (all_divide by f p.terms) in
    lowest_same a (replaced by [] (with_common_denominator by p.terms)) (common_denominator by p.terms * p.denominator)
    (pos ((sum_of (replaced_at a by) p.terms).denominator * p.denominator)) (sum_of (replaced_at a by) p.terms).number
    (both_some (common_denominator by p.terms) p.denominator (common_denominator_some by f p.terms) l)
    (times_last 0 (sum_of (replaced_at a by) p.terms).denominator 0 (common_denominator by p.terms) p.denominator
    (value a (replaced by [] (with_common_denominator by p.terms))) (sum_of (replaced_at a by) p.terms).number e)

-- ---- weights of terms with their atoms replaced

pub capped_term : (m c w v : ℕ) → v ≡ min m w → min m (min m c * v) ≡ min m (c * w)
capped_term m c w v e =
    let a : min m (min m c * min m w) ≡ min m (c * min m w) = capped_mul m c (min m w) in
    let b : min m (min m w * c) ≡ min m (w * c) = capped_mul m w c in
    let f : c * min m w ≡ min m w * c = omega arith in
    let g : w * c ≡ c * w = omega arith in
    rw e (a ∙ ap (λ n. min m n) f ∙ b ∙ ap (λ n. min m n) g)

-- ---- where what stands for the atoms is whole

some_denominators : (f : ℕ → Fraction) (xs : List ℕ) → ((x : ℕ) → 0 < (f x).denominator) → 0 < (product_of f xs).denominator
some_denominators f [] h = omega arith
some_denominators f (x ∷ xs) h = both_some (f x).denominator (product_of f xs).denominator (h x) (some_denominators f xs h)

pub some_sum : (f : ℕ → Fraction) (ts : List Summand) → ((x : ℕ) → 0 < (f x).denominator) → 0 < (sum_of f ts).denominator
some_sum f [] h = omega arith
some_sum f (t ∷ ts) h =
    both_some (1 * (product_of f t.factors).denominator) (sum_of f ts).denominator
    (both_some 1 (product_of f t.factors).denominator (omega arith) (some_denominators f t.factors h)) (some_sum f ts h)

four : (x d y e : ℤ) → (x *ℤ d) *ℤ (y *ℤ e) ≡ (x *ℤ y) *ℤ (d *ℤ e)
four x d y e =
    mul_assocℤ x d (y *ℤ e) ∙ ap (λ z. x *ℤ z) (sym (mul_assocℤ d y e) ∙ ap (λ z. z *ℤ e) (*ℤ_comm d y) ∙ mul_assocℤ y d e)
    ∙ sym (mul_assocℤ x y (d *ℤ e))

module _ (f : ℕ → Fraction) (b : ℕ → ℤ) (h : (x : ℕ) → (f x).number ≡ b x *ℤ pos (f x).denominator) where
  whole_product : (xs : List ℕ) → (product_of f xs).number ≡ product b xs *ℤ pos (product_of f xs).denominator
  whole_product [] = refl
  whole_product (x ∷ xs) =
      ap (λ z. z *ℤ (product_of f xs).number) (h x) ∙ ap (λ z. (b x *ℤ pos (f x).denominator) *ℤ z) (whole_product xs)
      ∙ four (b x) (pos (f x).denominator) (product b xs) (pos (product_of f xs).denominator)
      ∙ ap (λ z. (b x *ℤ product b xs) *ℤ z) (pos-*ℤ-pos (f x).denominator (product_of f xs).denominator)

  one_whole : (c p v : ℤ) (d o : ℕ) → (c *ℤ (p *ℤ pos d)) *ℤ pos o +ℤ (v *ℤ pos o) *ℤ pos (1 * d) ≡ (c *ℤ p +ℤ v) *ℤ pos ((1 * d) * o)
  one_whole c p v d o =
      let u : pos (1 * d) ≡ pos d = ap pos (let g : 1 * d ≡ d = omega arith in g) in
      let w : pos ((1 * d) * o) ≡ pos d *ℤ pos o = ap pos (one_times d o) ∙ sym (pos-*ℤ-pos d o) in
      let x : (c *ℤ (p *ℤ pos d)) *ℤ pos o ≡ (c *ℤ p) *ℤ (pos d *ℤ pos o) =
      ap (λ z. z *ℤ pos o) (sym (mul_assocℤ c p (pos d))) ∙ mul_assocℤ (c *ℤ p) (pos d) (pos o) in
      let y : (v *ℤ pos o) *ℤ pos d ≡ v *ℤ (pos d *ℤ pos o) = mul_assocℤ v (pos o) (pos d) ∙ ap (λ z. v *ℤ z) (*ℤ_comm (pos o) (pos d)) in
      rw (u, w, x, y, add-mul (c *ℤ p) v (pos d *ℤ pos o)) refl

  pub whole_sum : (ts : List Summand) → (sum_of f ts).number ≡ value b ts *ℤ pos (sum_of f ts).denominator
  whole_sum [] = refl
  whole_sum (t ∷ ts) =
      rw (whole_product t.factors, whole_sum ts) (one_whole t.coefficient (product b t.factors) (value b ts)
      (product_of f t.factors).denominator (sum_of f ts).denominator)

-- a run's view of it: the integers b stand for the atoms, and r is p there
pub substituted_whole : (a b : ℕ → ℤ) (by : List (ℕ × Polynomial)) (p : Polynomial) → AllFine by → 0 < p.denominator
    → ((x : ℕ) → value a (map_at by x) ≡ b x *ℤ pos (denominator_at by x))
    → (r : Polynomial) → SameFraction (fraction_at a r)
    (worth (replaced_at a by) p) → value a r.terms *ℤ pos p.denominator ≡ value b p.terms *ℤ pos r.denominator
substituted_whole a b by p f l h r e =
    let o : ℕ = (sum_of (replaced_at a by) p.terms).denominator in
    let n : (sum_of (replaced_at a by) p.terms).number ≡ value b p.terms *ℤ pos (sum_of (replaced_at a by) p.terms).denominator =
    whole_sum (replaced_at a by) b h p.terms in
    let g : value a r.terms *ℤ pos ((sum_of (replaced_at a by) p.terms).denominator * p.denominator)
    ≡ (value b p.terms *ℤ pos (sum_of (replaced_at a by) p.terms).denominator) *ℤ pos r.denominator =
    e ∙ ap (λ z. z *ℤ pos r.denominator) n in
    let u : value a r.terms *ℤ pos ((sum_of (replaced_at a by) p.terms).denominator * p.denominator)
    ≡ (value a r.terms *ℤ pos p.denominator) *ℤ pos (sum_of (replaced_at a by) p.terms).denominator =
    ap (λ z. value a r.terms *ℤ z) (sym (pos-*ℤ-pos (sum_of (replaced_at a by) p.terms).denominator p.denominator)
    ∙ *ℤ_comm (pos (sum_of (replaced_at a by) p.terms).denominator) (pos p.denominator))
    ∙ sym (mul_assocℤ (value a r.terms) (pos p.denominator) (pos (sum_of (replaced_at a by) p.terms).denominator)) in
    cancel_one (value a r.terms *ℤ pos p.denominator) (value b p.terms *ℤ pos r.denominator) (sum_of (replaced_at a by) p.terms).denominator
    (some_sum (replaced_at a by) p.terms (λ x. (f x).0))
    (sym u ∙ g ∙ swap_last (value b p.terms) (pos (sum_of (replaced_at a by) p.terms).denominator) (pos r.denominator))

-- ---- denominators

pub fine_one : (e : ℕ × Polynomial) (rest : List (ℕ × Polynomial)) → IsPolynomial e.1 → AllFine rest → AllFine (e ∷ rest)
fine_one e rest h f x = elim (cases_Bool (x == e.0)) [ inl z ↦ rw z (h.lowest.positive, h.fine) | inr z ↦ rw z (f x) ]

pub fine_more : (by : List (ℕ × Polynomial)) (e : ℕ × Polynomial) (i : ℕ) → i < length by → e ≡ slice_index_or by i e → IsPolynomial e.1
    → AllFine (drop (i + 1) by) → AllFine (drop i by)
fine_more by e i l is h f = subst AllFine (sym (next by i e l is)) (fine_one e (drop (i + 1) by) h f)

pub product_small : (i product n : ℕ) → product ≤ (2 ^ 16) ^ i → i ≤ 3 → n ≤ 2 ^ 16 → product * n ≤ 2 ^ 64
product_small i product n l k m =
    let a : (2 ^ 16) ^ i ≤ (2 ^ 16) ^ 3 = pow-le-pow_right (omega arith) k in
    let b : product * n ≤ 2 ^ 48 * 2 ^ 16 = mul-le product n (2 ^ 48) (2 ^ 16) (omega arith) m in
    omega arith

pub product_end : (i product : ℕ) → product ≤ (2 ^ 16) ^ i → i ≤ 4 → product ≤ 2 ^ 64
product_end i product l k =
    let a : (2 ^ 16) ^ i ≤ (2 ^ 16) ^ 4 = pow-le-pow_right (omega arith) k in
    omega arith

pub raised_next : (by : List (ℕ × Polynomial)) (ts : List Summand) (t : Summand) (i n m k all : ℕ) → i < length ts
    → t ≡ slice_index_or ts i t → m ≡ factors_denominator by t.factors → k ≡ least_common_multiple n m
    → common_denominator_from by n (drop i ts) ≡ all
    → common_denominator_from by k (drop (i + 1) ts) ≡ all
raised_next by ts t i n m k all l is e f v =
    let d : drop i ts ≡ t ∷ drop (i + 1) ts = next ts i t l is in
    let g : k ≡ least_common_multiple n (factors_denominator by t.factors) = f ∙ ap (λ x. least_common_multiple n x) e in
    ap (λ x. common_denominator_from by x (drop (i + 1) ts)) g ∙ sym (ap (common_denominator_from by n) d) ∙ v
