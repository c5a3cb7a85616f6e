-- Right tests exist under each limit that a width may have: whether two widths are the same, and whether a constraint is below another, is
-- decided.
use Rattle.std.proofs.Common.{◌≡◌, ◌⊎◌, inl, inr, ℕ, zero, suc, ◌<◌, ◌≤◌, ◌^◌, List, [], ◌∷◌, length, Option, Some, None, refl, ap, sym, ◌∙◌, arith}
use Rattle.std.specs.Prelude.{◌≤ℤ◌, ◌<ℤ◌, MatchOption, unsigned_abs}
use Rattle.std.specs.declared.cmp.Ordering.{Ordering}
use Rattle.std.specs.declared.cmp.Ordering.TheVariants.{Less, Equal, Greater}
use Rattle.std.proofs.Math.IntN.{ℤ, pos, ◌+ℤ◌, ◌-ℤ◌, ◌*ℤ◌}
use Rattle.std.proofs.lemmas.Int.{ints}
use Rattle.asl_bits.specs.declared.TheConstants.{WIDTH_LIMIT}
use Rattle.asl_poly.specs.Terms.{Summand, Polynomial, value, order, AllUpTo, Falls, AllBelow, IsTerm, Sorted}
use Rattle.asl_poly.specs.WidthLimits.{heaviest}
use Rattle.asl_poly.specs.Limits.{weight, atoms_of, IsMap}
use Rattle.asl_poly.specs.Operations.{constant_of, varying_part, constant_part}
use Rattle.asl_poly.specs.Denominators.{IsLowest, greatest_common_divisor, multiples, sizes}
use Rattle.asl_poly.specs.Poly.{IsPolynomial, IsConstant, IsOffset, constant_map, constant_value}
use Rattle.asl_poly.proofs.DistinctValues.{same_term}
use Rattle.asl_poly.proofs.Maps.{one_value, one_answer}
use Rattle.asl_poly.proofs.LowestTerms.{lowest_of_one, one_of_lowest}
use Rattle.asl_poly.proofs.SameFractions.{same_polynomial, same_of_equal, same_everywhere}
use Rattle.asl_poly.proofs.Offset.{found_offset}
use Rattle.asl_cons.specs.declared.End.{End}
use Rattle.asl_cons.specs.declared.End.TheVariants.{Int, Width}
use Rattle.asl_cons.specs.declared.Part.{Part}
use Rattle.asl_cons.specs.Constraint.{IsEnd, AllEnds, HasEnd, IsFixed, Holds, InFixed, IsAbove, Held, IsCovered, AllCovered, Below}
use Rattle.asl_cons.proofs.Covering.{Ends, value_constant_map, int_end, integer_above, integer_not_above, above_integer, not_above_integer, widths_not_above, not_holds, free_not_holds, covered_fixed, covered_free}
use Rattle.asl_rules.specs.Tests.{Tests, SameWidth, Inside, IsRight, IsLight}
use Rattle.asl_rules.proofs.basics.Deciding.{Dec, yes, yes_holds, holds_yes, as_well, both, either, neither, nats, at_most, integers, at_most_z, lists}

-- ---- polynomials

less : (o : Ordering) → Dec (o ≡ Less)
less Less = inl refl
less Equal = inr (λ h. cc)
less Greater = inr (λ h. cc)

up_to : (n : ℕ) (xs : List ℕ) → Dec (AllUpTo n xs)
up_to n [] = inl tt
up_to n (x ∷ xs) = both (at_most x n) (up_to n xs)

falls : (xs : List ℕ) → Dec (Falls xs)
falls [] = inl tt
falls (x ∷ xs) = both (up_to x xs) (falls xs)

below_all : (ms : List ℕ) (ts : List Summand) → Dec (AllBelow ms ts)
below_all ms [] = inl tt
below_all ms (t ∷ ts) = both (less (order t.factors ms)) (below_all ms ts)

term : (t : Summand) → Dec (IsTerm t)
term t =
    as_well (λ p. record { counts = p.0; falls = p.1.0; degree = p.1.1 }) (λ h. (h.counts, (h.falls, h.degree)))
    (both (neither (integers t.coefficient (pos 0))) (both (falls t.factors) (at_most (length t.factors) 4)))

sorted : (ts : List Summand) → Dec (Sorted ts)
sorted [] = inl tt
sorted (t ∷ ts) = as_well (λ p. (p.0, p.1.0, p.1.1)) (λ h. (h.0, (h.1, h.2))) (both (term t) (both (below_all t.factors ts) (sorted ts)))

is_map : (ts : List Summand) → Dec (IsMap ts)
is_map ts =
    as_well (λ p. record { sorted = p.0; light = p.1.0; few = p.1.1 }) (λ h. (h.sorted, (h.light, h.few)))
    (both (sorted ts) (both (at_most (weight ts) (2 ^ 62)) (at_most (length (atoms_of ts)) 8)))

same_summand : (s t : Summand) → Dec (s ≡ t)
same_summand s t = as_well (λ p. same_term s t p.0 p.1) (λ h. (ap (λ u. u.coefficient) h, ap (λ u. u.factors) h)) (both (integers s.coefficient t.coefficient) (lists nats s.factors t.factors))

same_terms : (ss ts : List Summand) → Dec (ss ≡ ts)
same_terms = lists same_summand

-- a polynomial is in lowest terms where the greatest common divisor of its denominator and its coefficients is 1
is_lowest : (p : Polynomial) → 0 < p.denominator → Dec (IsLowest p)
is_lowest p some =
    as_well (λ e. lowest_of_one p some e) (λ h. one_of_lowest p h) (nats (greatest_common_divisor p.denominator (sizes p.terms)) 1)

lowest_by : (p : Polynomial) → Dec (1 ≤ p.denominator) → Dec (IsLowest p)
lowest_by p (inl some) = is_lowest p (omega (arith, some))
lowest_by p (inr none) = inr (λ h. let k : 0 < p.denominator = h.positive in none (omega (arith, k)))

is_polynomial : (p : Polynomial) → Dec (IsPolynomial p)
is_polynomial p =
    as_well (λ h. record { map = h.0; lowest = h.1.0; fine = h.1.1 }) (λ h. (h.map, (h.lowest, h.fine)))
    (both (is_map p.terms) (both (lowest_by p (at_most 1 p.denominator)) (at_most p.denominator (2 ^ 16))))

same_polynomials : (p q : Polynomial) → Dec (p ≡ q)
same_polynomials p q =
    as_well (λ h. same_polynomial p q h.0 h.1) (λ e. (ap (λ (z : Polynomial). z.terms) e, ap (λ (z : Polynomial). z.denominator) e))
    (both (same_terms p.terms q.terms) (nats p.denominator q.denominator))

same_width : (p q : Polynomial) → Dec (SameWidth p q)
same_width p q =
    as_well (λ m. record { left = m.0; right = m.1.0; same = same_of_equal p q m.1.1 })
    (λ h. (h.left, (h.right, same_everywhere p q h.left h.right h.same)))
    (both (is_polynomial p) (both (is_polynomial q) (same_polynomials p q)))

-- ---- ends

is_end : (e : End) → Dec (IsEnd e)
is_end (Int z) = inl tt
is_end (Width p) = is_polynomial p

ends : (ps : List Part) → Dec (AllEnds ps)
ends [] = inl tt
ends (p ∷ ps) = both (both (is_end p.low) (is_end p.high)) (ends ps)

abbrev Number : End → Type 0
Number e = ((c : ℤ) × HasEnd e c) ⊎ ((c : ℤ) → HasEnd e c → ⊥)

found : (p : Polynomial) (r : Option ℤ) → MatchOption r ((c : ℤ) → IsConstant p c → ⊥) (λ c. IsConstant p c) → Number (Width p)
found p None m = inr m
found p (Some c) m = inl (c, m)

number : (e : End) → IsEnd e → Number e
number (Int z) h = inl (z, int_end z)
number (Width p) h = found p (constant_value p) (one_answer p (constant_value p) h refl)

abbrev Fixed : Part → Type 0
Fixed p = ((l : ℤ) × (h : ℤ) × IsFixed p l h) ⊎ ((l h : ℤ) → IsFixed p l h → ⊥)

fixed_by : (p : Part) → Number p.low → Number p.high → Fixed p
fixed_by p (inl (l, f)) (inl (h, g)) = inl (l, h, record { low = f; high = g })
fixed_by p (inl x) (inr n) = inr (λ l h f. n h f.high)
fixed_by p (inr n) y = inr (λ l h f. n l f.low)

fixed : (p : Part) → IsEnd p.low → IsEnd p.high → Fixed p
fixed p e f = fixed_by p (number p.low e) (number p.high f)

-- ---- one end above another

nowhere : ℕ → ℤ
nowhere n = pos 0

-- the integer that the terms are, where they have no atom
abbrev Over : Polynomial → Type 0
Over p = ((c : ℤ) × ((a : ℕ → ℤ) → value a p.terms ≡ c)) ⊎ ((c : ℤ) → ((a : ℕ → ℤ) → value a p.terms ≡ c) → ⊥)

over_by : (p : Polynomial) (r : Option ℤ) → MatchOption r ((c : ℤ) → ((a : ℕ → ℤ) → value a p.terms ≡ c) → ⊥)
    (λ c. (a : ℕ → ℤ) → value a p.terms ≡ c) → Over p
over_by p None m = inr m
over_by p (Some c) m = inl (c, m)

terms_over : (p : Polynomial) → IsPolynomial p → Over p
terms_over p h = over_by p (constant_of p.terms) (one_value p.terms (constant_of p.terms) h.map refl)

-- a distance is one number
one_distance : (x c d : ℤ) → x +ℤ c ≡ x +ℤ d → c ≡ d
one_distance x c d e = omega (arith, ints)

at_distance : (p q : Polynomial) (c : ℤ) → IsOffset p q c → Dec (IsAbove (Width p) (Width q))
at_distance p q c d =
    as_well (λ l. record { by = c; least = l; apart = d })
    (λ h. let e : h.by ≡ c = one_distance (value nowhere q.terms *ℤ pos p.denominator) h.by c (sym (h.apart nowhere) ∙ d nowhere) in
    let l : pos 0 ≤ℤ h.by = h.least in rw e at l)
    (at_most_z (pos 0) c)

-- the terms with atoms over one denominator
abbrev Bodies : Polynomial → Polynomial → Type 0
Bodies p q = multiples q.denominator (varying_part p.terms) ≡ multiples p.denominator (varying_part q.terms)

distance : Polynomial → Polynomial → ℤ
distance p q = pos q.denominator *ℤ constant_part p.terms -ℤ pos p.denominator *ℤ constant_part q.terms

widths_by : (p q : Polynomial) → IsPolynomial p → IsPolynomial q → Dec (Bodies p q) → Dec (IsAbove (Width p) (Width q))
unfolding distance
widths_by p q h k (inl e) =
    at_distance p q (distance p q) (found_offset p q h k p.terms q.terms q.denominator p.denominator (Some (distance p q))
    refl refl refl refl (e, refl))
widths_by p q h k (inr n) =
    inr (widths_not_above p q (found_offset p q h k p.terms q.terms q.denominator p.denominator None refl refl refl refl n))

widths : (p q : Polynomial) → IsPolynomial p → IsPolynomial q → Dec (IsAbove (Width p) (Width q))
widths p q h k =
    widths_by p q h k (same_terms (multiples q.denominator (varying_part p.terms)) (multiples p.denominator (varying_part q.terms)))

-- an integer above a width, and a width above an integer: the integer times the denominator is compared with the number of the terms
integer_over : (x : ℤ) (q : Polynomial) → Over q → Dec (IsAbove (Int x) (Width q))
integer_over x q (inl (c, e)) = as_well ((integer_above x c q e).0) ((integer_above x c q e).1) (at_most_z c (x *ℤ pos q.denominator))
integer_over x q (inr n) = inr (integer_not_above x q n)

over_integer : (p : Polynomial) (y : ℤ) → Over p → Dec (IsAbove (Width p) (Int y))
over_integer p y (inl (c, e)) = as_well ((above_integer p y c e).0) ((above_integer p y c e).1) (at_most_z (y *ℤ pos p.denominator) c)
over_integer p y (inr n) = inr (not_above_integer p y n)

integers_over : (x y : ℤ) → Dec (IsAbove (Int x) (Int y))
integers_over x y =
    as_well (λ h. record { by = h.by; least = h.least; apart = h.apart }) (λ h. record { by = h.by; least = h.least; apart = h.apart })
    (integer_over x (constant_map y) (inl (y, λ a. value_constant_map a y)))

above : (e f : End) → IsEnd e → IsEnd f → Dec (IsAbove e f)
above (Int x) (Int y) m n = integers_over x y
above (Int x) (Width q) m n = integer_over x q (terms_over q n)
above (Width p) (Int y) m n = over_integer p y (terms_over p m)
above (Width p) (Width q) m n = widths p q m n

held : (p : Part) (qs : List Part) → IsEnd p.low → IsEnd p.high → AllEnds qs → Dec (Held p qs)
held p [] l h m = inr (λ x. x)
held p (q ∷ qs) l h m = either (both (above p.low q.low l m.0.0) (above q.high p.high m.0.1 h)) (held p qs l h m.1)

-- ---- coverage

holds_by : (q : Part) (i : ℤ) → Ends q → Fixed q → Dec (Holds q i)
holds_by q i e (inl (l, h, f)) = elim (both (at_most_z l i) (at_most_z i h)) [
  | inl p ↦ inl (record { l = l; h = h; fixed = f; least = p.0; most = p.1 })
  | inr n ↦ inr (not_holds q l h i e f n)
]
holds_by q i e (inr n) = inr (free_not_holds q i n)

inside : (i : ℤ) (qs : List Part) → AllEnds qs → Dec (InFixed i qs)
inside i [] m = inr (λ x. x)
inside i (q ∷ qs) m = either (holds_by q i m.0 (fixed q m.0.0 m.0.1)) (inside i qs m.1)

-- all from l on, n of them
abbrev AllIn : List Part → ℕ → ℤ → Type 0
AllIn qs n l = (i : ℤ) → l ≤ℤ i → i <ℤ (l +ℤ pos n) → InFixed i qs

none_there : (l i : ℤ) → l ≤ℤ i → i <ℤ (l +ℤ pos 0) → ⊥
none_there l i a b = grind (arith, ints)

first_there : (l : ℤ) (n : ℕ) → l <ℤ (l +ℤ pos (suc n))
first_there l n = grind (arith, ints)

refl_le : (l : ℤ) → l ≤ℤ l
refl_le l = grind (arith, ints)

next_there : (l i : ℤ) (n : ℕ) → i <ℤ (l +ℤ pos (suc n)) → i <ℤ ((l +ℤ pos 1) +ℤ pos n)
next_there l i n h = grind (arith, ints)

there_next : (l i : ℤ) (n : ℕ) → i <ℤ ((l +ℤ pos 1) +ℤ pos n) → i <ℤ (l +ℤ pos (suc n))
there_next l i n h = grind (arith, ints)

one_more : (l i : ℤ) → (l +ℤ pos 1) ≤ℤ i → l ≤ℤ i
one_more l i h = grind (arith, ints)

first_or_more : (l i : ℤ) → l ≤ℤ i → (l ≡ i → ⊥) → (l +ℤ pos 1) ≤ℤ i
first_or_more l i h n = grind (arith, ints)

with_first : (qs : List Part) (n : ℕ) (l : ℤ) → InFixed l qs → AllIn qs n (l +ℤ pos 1) → AllIn qs (suc n) l
with_first qs n l f g i a b = elim (integers l i) [ inl e ↦ rw (← e) f | inr w ↦ g i (first_or_more l i a w) (next_there l i n b) ]

all_in : (qs : List Part) → AllEnds qs → (n : ℕ) (l : ℤ) → Dec (AllIn qs n l)
all_in qs m zero l = inl (λ i a b. absurd (none_there l i a b))
all_in qs m (suc n) l =
    as_well (λ p. with_first qs n l p.0 p.1) (λ h. (h l (refl_le l) (first_there l n), λ i a b. h i (one_more l i a) (there_next l i n b)))
    (both (inside l qs m) (all_in qs m n (l +ℤ pos 1)))

abbrev Covers : List Part → ℤ → ℤ → Type 0
Covers qs l h = (i : ℤ) → l ≤ℤ i → i ≤ℤ h → InFixed i qs

count_of : ℤ → ℤ → ℕ
count_of l h = unsigned_abs ((h -ℤ l) +ℤ pos 1)

counted : (l h i : ℤ) → l ≤ℤ h → i ≤ℤ h → i <ℤ (l +ℤ pos (count_of l h))
unfolding count_of
counted l h i a b = grind (arith, ints)

counted_back : (l h i : ℤ) → l ≤ℤ h → i <ℤ (l +ℤ pos (count_of l h)) → i ≤ℤ h
unfolding count_of
counted_back l h i a b = grind (arith, ints)

through : (l i h : ℤ) → l ≤ℤ i → i ≤ℤ h → l ≤ℤ h
through l i h a b = grind (arith, ints)

empty : (l h i : ℤ) → (l ≤ℤ h → ⊥) → l ≤ℤ i → i ≤ℤ h → ⊥
empty l h i n a b = n (through l i h a b)

covers_by : (qs : List Part) → AllEnds qs → (l h : ℤ) → Dec (l ≤ℤ h) → Dec (Covers qs l h)
covers_by qs m l h (inl a) =
    as_well (λ k i b c. k i b (counted l h i a c)) (λ k i b c. k i b (counted_back l h i a c)) (all_in qs m (count_of l h) l)
covers_by qs m l h (inr n) = inl (λ i b c. absurd (empty l h i n b c))

covered_by : (p : Part) (qs : List Part) → IsEnd p.low → IsEnd p.high → AllEnds qs → Fixed p → Dec (IsCovered qs p)
covered_by p qs e f m (inl (l, h, g)) =
    as_well ((covered_fixed p qs l h (e, f) g).0) ((covered_fixed p qs l h (e, f) g).1) (covers_by qs m l h (at_most_z l h))
covered_by p qs e f m (inr n) = as_well ((covered_free p qs n).0) ((covered_free p qs n).1) (held p qs e f m)

all_covered : (ps qs : List Part) → AllEnds ps → AllEnds qs → Dec (AllCovered ps qs)
all_covered [] qs k m = inl tt
all_covered (p ∷ ps) qs k m = both (covered_by p qs k.0.0 k.0.1 m (fixed p k.0.0 k.0.1)) (all_covered ps qs k.1 m)

nil_cons : (q : Part) (qs : List Part) → q ∷ qs ≡ [] → ⊥
nil_cons q qs h = cc

nothing_below : (q : Part) (qs : List Part) → Below [] (q ∷ qs) → ⊥
nothing_below q qs (inl e) = nil_cons q qs e
nothing_below q qs (inr k) = k.0 refl

covered_below : (p : Part) (ps : List Part) (q : Part) (qs : List Part) → Below (p ∷ ps) (q ∷ qs) → AllCovered (p ∷ ps) (q ∷ qs)
covered_below p ps q qs (inl e) = absurd (nil_cons q qs e)
covered_below p ps q qs (inr k) = k.1

below : (ps qs : List Part) → AllEnds ps → AllEnds qs → Dec (Below ps qs)
below ps [] k m = inl (inl refl)
below [] (q ∷ qs) k m = inr (nothing_below q qs)
below (p ∷ ps) (q ∷ qs) k m = as_well (λ c. inr (nil_cons p ps, c)) (covered_below p ps q qs) (all_covered (p ∷ ps) (q ∷ qs) k m)

inside_by : (ps qs : List Part) → Dec (AllEnds ps) → Dec (AllEnds qs) → Dec (Inside ps qs)
inside_by ps qs (inl k) (inl m) = as_well (λ b. record { left = k; right = m; below = b }) (λ h. h.below) (below ps qs k m)
inside_by ps qs (inl k) (inr n) = inr (λ h. n h.right)
inside_by ps qs (inr n) e = inr (λ h. n h.left)

is_inside : (ps qs : List Part) → Dec (Inside ps qs)
is_inside ps qs = inside_by ps qs (ends ps) (ends qs)

-- ---- tests

tests : ℕ → Tests
tests limit = record { limit = limit; same = λ p q. yes (same_width p q); below = λ ps qs. yes (is_inside ps qs) }

pub light_limit : (limit : ℕ) → limit ≤ heaviest → IsLight limit
unfolding IsLight
light_limit limit light = light

pub limit_light : (limit : ℕ) → IsLight limit → limit ≤ heaviest
unfolding IsLight
limit_light limit light = light

right : (limit : ℕ) → limit ≤ heaviest → IsRight (tests limit)
unfolding tests
right limit light = record {
  within = light_limit limit light;
  same_yes = λ p q h. yes_holds (same_width p q) h;
  same_all = λ p q h. holds_yes (same_width p q) h;
  below_yes = λ ps qs h. yes_holds (is_inside ps qs) h;
  below_all = λ ps qs h. holds_yes (is_inside ps qs) h;
}

within : (limit : ℕ) → (tests limit).limit ≡ limit
unfolding tests
within limit = refl

-- right tests with a width limit
pub record SomeTests (limit : ℕ) : Type 0 where
  pub tests : Tests
  pub right : IsRight tests
  pub within : tests.limit ≡ limit

pub some_tests : (limit : ℕ) → limit ≤ heaviest → SomeTests limit
some_tests limit light = record { tests = tests limit; right = right limit light; within = within limit }

-- the limit of this program's bits is one
pub limit_within : WIDTH_LIMIT ≤ heaviest
limit_within = omega arith
