-- The ends that the arithmetic makes are polynomials within the limits, where those of the operands are.
use Rattle.std.proofs.Common.{◌≡◌, ℕ, ◌^◌, ◌≤◌, ◌&&◌, Bool, true, false, cond, List, [], ◌∷◌, ◌++◌, length, Option, Some, None, ◌*◌, refl, subst, arith}
use Rattle.std.specs.Prelude.{nat_le, unsigned_abs, ◌+ℤ◌, ◌-ℤ◌, ◌*ℤ◌}
use Rattle.std.proofs.Math.IntN.{ℤ, pos}
use Rattle.std.proofs.lemmas.Bool.{and_parts}
use Rattle.asl_num.specs.Exact.{floor_div}
use Rattle.asl_poly.specs.Terms.{Polynomial}
use Rattle.asl_poly.specs.Operations.{constant_term, constant_terms, is_zero, sum_terms, difference_terms, product_terms}
use Rattle.asl_poly.specs.Limits.{weight, atoms_of}
use Rattle.asl_poly.specs.Denominators.{raised}
use Rattle.asl_poly.specs.Poly.{IsPolynomial, sum_denominator, constant_value, constant_map, sum_map, difference_map, product_map}
use Rattle.asl_poly.proofs.Maps as maps
use Rattle.asl_poly.proofs.Maps.{sorted_constant}
use Rattle.asl_poly.proofs.LowestTerms.{one_is_polynomial, lowest_polynomial}
use Rattle.asl_cons.specs.declared.End.{End}
use Rattle.asl_cons.specs.declared.End.TheVariants.{Int, Width}
use Rattle.asl_cons.specs.declared.Part.{Part}
use Rattle.asl_cons.specs.Constraint.{poly_of, IsEnd, AllEnds, IsConstraint}
use Rattle.asl_cons.specs.declared.arithmetic.Operator.{Operator}
use Rattle.asl_cons.specs.declared.arithmetic.Operator.TheVariants.{Add, Sub, Mul, DivFloor, Shl, Shr}
use Rattle.asl_cons.specs.Operator.{part_by}
use Rattle.asl_cons.specs.Arithmetic.{bind, exact, number_of, shown_by, shown, integer_end, width_end, widths, ends_with, light_end, sum_fits, product_fits, sum_end, difference_end, product_end, range_of, point_in, point_of, power_of_two, part, part_of, sum_part, difference_part, product_with, product_part, modulo_part, quotient_part, shifted_up_part, shifted_down_part, limited, with_each, all_pairs, each_part, by_pairs, sum_parts, difference_parts, product_parts, modulo_parts, quotient_parts, shifted_up_parts, shifted_down_parts, union_parts}
use Rattle.asl_cons.proofs.Covering.{Ends}
use Rattle.asl_cons.proofs.EndsAsWidths.{true_le, sum_back, product_back}
use Rattle.asl_cons.proofs.Results.{some_same, none_some, begun, both_lists, ended}

-- ---- polynomials

constant_light : (b : Bool) (z : ℤ) → unsigned_abs z ≤ 2 ^ 62 → weight (cond b [] (constant_term z ∷ [])) ≤ 2 ^ 62
constant_light true z h = omega arith
constant_light false z h = omega (arith, h)

constant_few : (b : Bool) (z : ℤ) → length (atoms_of (cond b [] (constant_term z ∷ []))) ≤ 8
constant_few true z = omega arith
constant_few false z = omega arith

constant_is_one : (z : ℤ) → unsigned_abs z ≤ 2 ^ 62 → IsPolynomial (constant_map z)
unfolding constant_map
constant_is_one z h =
    one_is_polynomial (constant_terms z)
    (record { sorted = sorted_constant z; light = constant_light (is_zero z) z h; few = constant_few (is_zero z) z })

poly_is_one : (e : End) → IsEnd e → light_end e ≡ true → IsPolynomial (poly_of e)
poly_is_one (Int z) i h = constant_is_one z (true_le (unsigned_abs z) (2 ^ 62) h)
poly_is_one (Width p) i h = i

-- ---- ends

shown_by_end : (o : Option ℤ) (p : Polynomial) → IsPolynomial p → IsEnd (shown_by o p)
shown_by_end (Some c) p i = tt
shown_by_end None p i = i

pub shown_end : (p : Polynomial) → IsPolynomial p → IsEnd (shown p)
shown_end p i = shown_by_end (constant_value p) p i

pub integer_is_end : (o : Option ℤ) (g : End) → integer_end o ≡ Some g → IsEnd g
integer_is_end None g h = none_some g h
integer_is_end (Some n) g h = subst IsEnd (some_same (Int n) g h) tt

width_is_end : (b : Bool) (p : Polynomial) (g : End) → (b ≡ true → IsPolynomial p) → width_end b p ≡ Some g → IsEnd g
width_is_end true p g i h = subst IsEnd (some_same (shown p) g h) (shown_end p (i refl))
width_is_end false p g i h = none_some g h

-- what is made of two polynomials within the limits, where that fits, is one
abbrev pub Stays : (Polynomial → Polynomial → Bool) → (Polynomial → Polynomial → Polynomial) → Type 0
Stays fit made = (p q : Polynomial) → IsPolynomial p → IsPolynomial q → fit p q ≡ true → IsPolynomial (made p q)

module _ (op : ℤ → ℤ → ℤ) (fit : Polynomial → Polynomial → Bool) (made : Polynomial → Polynomial → Polynomial) (stays : Stays fit made) where
  within : (e f : End) → IsEnd e → IsEnd f → (light_end e && (light_end f && fit (poly_of e) (poly_of f))) ≡ true → IsPolynomial (made (poly_of e) (poly_of f))
  within e f i j h =
      let s = and_parts (light_end e) (light_end f && fit (poly_of e) (poly_of f)) h in
      let t = and_parts (light_end f) (fit (poly_of e) (poly_of f)) s.1 in
      stays (poly_of e) (poly_of f) (poly_is_one e i s.0) (poly_is_one f j t.0) t.1

  widths_end : (e f g : End) → IsEnd e → IsEnd f → widths fit made e f ≡ Some g → IsEnd g
  widths_end e f g i j h = width_is_end (light_end e && (light_end f && fit (poly_of e) (poly_of f))) (made (poly_of e) (poly_of f)) g (within e f i j) h

  ends_with_end : (e f g : End) (o p : Option ℤ) → IsEnd e → IsEnd f → ends_with o p op (widths fit made e f) ≡ Some g → IsEnd g
  ends_with_end e f g (Some x) (Some y) i j h = integer_is_end (exact (op x y)) g h
  ends_with_end e f g (Some x) None i j h = widths_end e f g i j h
  ends_with_end e f g None p i j h = widths_end e f g i j h

sum_stays : Stays sum_fits sum_map
unfolding sum_map
sum_stays p q i j h =
    let f = sum_back p q h in
    lowest_polynomial (sum_terms (raised (sum_denominator p q) p) (raised (sum_denominator p q) q)) (sum_denominator p q)
    (maps.sum_map p q i j f) (maps.common_some p q i j) f.fine

difference_stays : Stays sum_fits difference_map
unfolding difference_map
difference_stays p q i j h =
    let f = sum_back p q h in
    lowest_polynomial (difference_terms (raised (sum_denominator p q) p) (raised (sum_denominator p q) q)) (sum_denominator p q)
    (maps.difference_map p q i j f) (maps.common_some p q i j) f.fine

product_stays : Stays product_fits product_map
unfolding product_map
product_stays p q i j h =
    let f = product_back p q h in
    lowest_polynomial (product_terms p.terms q.terms) (p.denominator * q.denominator) (maps.product_map p q i.map j.map f)
    (maps.product_some p q i j) f.fine

sum_is_end : (e f g : End) → IsEnd e → IsEnd f → sum_end e f ≡ Some g → IsEnd g
sum_is_end e f g i j h = ends_with_end (λ x y. x +ℤ y) sum_fits sum_map sum_stays e f g (number_of e) (number_of f) i j h

difference_is_end : (e f g : End) → IsEnd e → IsEnd f → difference_end e f ≡ Some g → IsEnd g
difference_is_end e f g i j h = ends_with_end (λ x y. x -ℤ y) sum_fits difference_map difference_stays e f g (number_of e) (number_of f) i j h

product_is_end : (e f g : End) → IsEnd e → IsEnd f → product_end e f ≡ Some g → IsEnd g
product_is_end e f g i j h = ends_with_end (λ x y. x *ℤ y) product_fits product_map product_stays e f g (number_of e) (number_of f) i j h

-- ---- parts

part_ends : (o u : Option End) (r : Part) → ((g : End) → o ≡ Some g → IsEnd g) → ((g : End) → u ≡ Some g → IsEnd g) → part_of o u ≡ Some r → Ends r
part_ends o u r f k h = let e = ended o u r h in subst Ends e.is (f e.low e.first, k e.high e.rest)

integers_ends : (l h : ℤ) (r : Part) → Some (part (Int l) (Int h)) ≡ Some r → Ends r
integers_ends l h r e = subst Ends (some_same (part (Int l) (Int h)) r e) (tt, tt)

sum_ends : (p q r : Part) → Ends p → Ends q → sum_part p q ≡ Some r → Ends r
sum_ends p q r i j h = part_ends (sum_end p.low q.low) (sum_end p.high q.high) r (λ g e. sum_is_end p.low q.low g i.0 j.0 e) (λ g e. sum_is_end p.high q.high g i.1 j.1 e) h

difference_ends : (p q r : Part) → Ends p → Ends q → difference_part p q ≡ Some r → Ends r
difference_ends p q r i j h =
    part_ends (difference_end p.low q.high) (difference_end p.high q.low) r (λ g e. difference_is_end p.low q.high g i.0 j.1 e) (λ g e. difference_is_end p.high q.low g i.1 j.0 e) h

scaled_by : (o : Option ℤ) (q r : Part) → Ends q → bind o (λ c. part_of (product_end (Int c) q.low) (product_end (Int c) q.high)) ≡ Some r → Ends r
scaled_by None q r j h = none_some r h
scaled_by (Some c) q r j h =
    part_ends (product_end (Int c) q.low) (product_end (Int c) q.high) r (λ g e. product_is_end (Int c) q.low g tt j.0 e) (λ g e. product_is_end (Int c) q.high g tt j.1 e) h

product_by : (o u : Option (ℤ × ℤ)) (p q r : Part) → Ends p → Ends q → product_with o u p q ≡ Some r → Ends r
product_by (Some s) (Some u) p q r i j h = part_ends _ _ r (λ g e. integer_is_end _ g e) (λ g e. integer_is_end _ g e) h
product_by (Some s) None p q r i j h = scaled_by (point_in 0 s.0 s.1) q r j h
product_by None (Some u) p q r i j h = scaled_by (point_in 0 u.0 u.1) p r i h
product_by None None p q r i j h = none_some r h

product_ends : (p q r : Part) → Ends p → Ends q → product_part p q ≡ Some r → Ends r
product_ends p q r i j h = product_by (range_of p) (range_of q) p q r i j h

modulo_by : (o : Option ℤ) (r : Part) → bind o (λ m. Some (part (Int (pos 0)) (Int (m -ℤ pos 1)))) ≡ Some r → Ends r
modulo_by None r h = none_some r h
modulo_by (Some m) r h = integers_ends (pos 0) (m -ℤ pos 1) r h

modulo_ends : (q r : Part) → modulo_part q ≡ Some r → Ends r
modulo_ends q r h = modulo_by (point_of 1 q) r h

-- two integers behind those of two parts
behind_both : {A B : Type 0} (o : Option A) (u : Option B) (k : A → B → Option Part) (r : Part) → ((x : A) (y : B) → k x y ≡ Some r → Ends r) → bind o (λ x. bind u (λ y. k x y)) ≡ Some r → Ends r
behind_both None u k r f h = none_some r h
behind_both (Some x) None k r f h = none_some r h
behind_both (Some x) (Some y) k r f h = f x y h

quotient_ends : (p q r : Part) → Ends p → Ends q → quotient_part p q ≡ Some r → Ends r
quotient_ends p q r i j h =
    behind_both (range_of p) (point_of 1 q) (λ s m. Some (part (Int (floor_div s.0 (unsigned_abs m))) (Int (floor_div s.1 (unsigned_abs m))))) r
    (λ s m e. integers_ends (floor_div s.0 (unsigned_abs m)) (floor_div s.1 (unsigned_abs m)) r e) h

shifted_down_ends : (p q r : Part) → Ends p → Ends q → shifted_down_part p q ≡ Some r → Ends r
shifted_down_ends p q r i j h =
    behind_both (range_of p) (point_of 0 q) (λ s k. Some (part (Int (floor_div s.0 (2 ^ unsigned_abs k))) (Int (floor_div s.1 (2 ^ unsigned_abs k))))) r
    (λ s k e. integers_ends (floor_div s.0 (2 ^ unsigned_abs k)) (floor_div s.1 (2 ^ unsigned_abs k)) r e) h

shifted_up_ends : (p q r : Part) → Ends p → Ends q → shifted_up_part p q ≡ Some r → Ends r
shifted_up_ends p q r i j h =
    behind_both (range_of p) (point_of 0 q) (λ s k. part_of (integer_end (exact (s.0 *ℤ power_of_two k))) (integer_end (exact (s.1 *ℤ power_of_two k)))) r
    (λ s k e. part_ends _ _ r (λ g u. integer_is_end (exact (s.0 *ℤ power_of_two k)) g u) (λ g u. integer_is_end (exact (s.1 *ℤ power_of_two k)) g u) e) h

-- ---- constraints

pub all_ends_append : (ps qs : List Part) → AllEnds ps → AllEnds qs → AllEnds (ps ++ qs)
all_ends_append [] qs i j = j
all_ends_append (p ∷ ps) qs i j = (i.0, all_ends_append ps qs i.1 j)

limited_if : (b : Bool) (ps : List Part) → AllEnds ps → AllEnds (cond b ps [])
limited_if true ps i = i
limited_if false ps i = tt

limited_ends : (o : Option (List Part)) → ((ps : List Part) → o ≡ Some ps → AllEnds ps) → AllEnds (limited o)
limited_ends None f = tt
limited_ends (Some ps) f = limited_if (nat_le (length ps) 64) ps (f ps refl)

module _ (op : Part → Part → Option Part) (keeps : (p q r : Part) → Ends p → Ends q → op p q ≡ Some r → Ends r) where
  each_ends : (p : Part) (qs rs : List Part) → Ends p → AllEnds qs → with_each op p qs ≡ Some rs → AllEnds rs
  each_ends p [] rs i j h = subst AllEnds (some_same [] rs h) tt
  each_ends p (q ∷ qs) rs i j h =
      let b = begun (op p q) (with_each op p qs) rs h in
      subst AllEnds b.is (keeps p q b.one i j.0 b.first, each_ends p qs b.others i j.1 b.rest)

  all_pairs_ends : (ps qs rs : List Part) → AllEnds ps → AllEnds qs → all_pairs op ps qs ≡ Some rs → AllEnds rs
  all_pairs_ends [] qs rs i j h = subst AllEnds (some_same [] rs h) tt
  all_pairs_ends (p ∷ ps) qs rs i j h =
      let b = both_lists (with_each op p qs) (all_pairs op ps qs) rs h in
      subst AllEnds b.is (all_ends_append b.left b.right (each_ends p qs b.left i.0 j b.first) (all_pairs_ends ps qs b.right i.1 j b.rest))

  by_pairs_ends : (ps qs : List Part) → AllEnds ps → AllEnds qs → AllEnds (by_pairs op ps qs)
  by_pairs_ends ps qs i j = limited_ends (all_pairs op ps qs) (λ rs h. all_pairs_ends ps qs rs i j h)

moduli_ends : (qs rs : List Part) → each_part modulo_part qs ≡ Some rs → AllEnds rs
moduli_ends [] rs h = subst AllEnds (some_same [] rs h) tt
moduli_ends (q ∷ qs) rs h =
    let b = begun (modulo_part q) (each_part modulo_part qs) rs h in
    subst AllEnds b.is (modulo_ends q b.one b.first, moduli_ends qs b.others b.rest)

pub sum_keeps : (ps qs : List Part) → AllEnds ps → AllEnds qs → AllEnds (sum_parts ps qs)
unfolding sum_parts
sum_keeps ps qs i j = by_pairs_ends sum_part sum_ends ps qs i j

pub difference_keeps : (ps qs : List Part) → AllEnds ps → AllEnds qs → AllEnds (difference_parts ps qs)
unfolding difference_parts
difference_keeps ps qs i j = by_pairs_ends difference_part difference_ends ps qs i j

pub product_keeps : (ps qs : List Part) → AllEnds ps → AllEnds qs → AllEnds (product_parts ps qs)
unfolding product_parts
product_keeps ps qs i j = by_pairs_ends product_part product_ends ps qs i j

pub modulo_keeps : (ps qs : List Part) → AllEnds (modulo_parts ps qs)
unfolding modulo_parts
modulo_keeps ps qs = limited_ends (each_part modulo_part qs) (λ rs h. moduli_ends qs rs h)

pub quotient_keeps : (ps qs : List Part) → AllEnds ps → AllEnds qs → AllEnds (quotient_parts ps qs)
unfolding quotient_parts
quotient_keeps ps qs i j = by_pairs_ends quotient_part quotient_ends ps qs i j

pub shifted_up_keeps : (ps qs : List Part) → AllEnds ps → AllEnds qs → AllEnds (shifted_up_parts ps qs)
unfolding shifted_up_parts
shifted_up_keeps ps qs i j = by_pairs_ends shifted_up_part shifted_up_ends ps qs i j

pub shifted_down_keeps : (ps qs : List Part) → AllEnds ps → AllEnds qs → AllEnds (shifted_down_parts ps qs)
unfolding shifted_down_parts
shifted_down_keeps ps qs i j = by_pairs_ends shifted_down_part shifted_down_ends ps qs i j

pub union_keeps : (ps qs : List Part) → AllEnds ps → AllEnds qs → AllEnds (union_parts ps qs)
union_keeps [] qs i j = tt
union_keeps (p ∷ ps) [] i j = tt
union_keeps (p ∷ ps) (q ∷ qs) i j = limited_if (nat_le (length ((p ∷ ps) ++ q ∷ qs)) 64) ((p ∷ ps) ++ q ∷ qs) (all_ends_append (p ∷ ps) (q ∷ qs) i j)

-- ---- what the code holds

le_is : (n : ℕ) → nat_le n 64 ≡ true → n ≤ 64
le_is n h = true_le n 64 h

few_if : (b : Bool) (ps : List Part) → nat_le (length ps) 64 ≡ b → length (cond b ps []) ≤ 64
few_if true ps e = le_is (length ps) e
few_if false ps e = omega arith

limited_few : (o : Option (List Part)) → length (limited o) ≤ 64
limited_few None = omega arith
limited_few (Some ps) = few_if (nat_le (length ps) 64) ps refl

operator_ends : (op : Operator) (p q r : Part) → Ends p → Ends q → part_by op p q ≡ Some r → Ends r
operator_ends Add p q r i j h = sum_ends p q r i j h
operator_ends Sub p q r i j h = difference_ends p q r i j h
operator_ends Mul p q r i j h = product_ends p q r i j h
operator_ends DivFloor p q r i j h = quotient_ends p q r i j h
operator_ends Shl p q r i j h = shifted_up_ends p q r i j h
operator_ends Shr p q r i j h = shifted_down_ends p q r i j h

pub pairs_hold : (op : Operator) (ps qs : List Part) → IsConstraint ps → IsConstraint qs → IsConstraint (by_pairs (part_by op) ps qs)
pairs_hold op ps qs i j = record { few = limited_few (all_pairs (part_by op) ps qs); ends = by_pairs_ends (part_by op) (operator_ends op) ps qs i.ends j.ends }

pub moduli_hold : (qs : List Part) → IsConstraint (limited (each_part modulo_part qs))
moduli_hold qs = record { few = limited_few (each_part modulo_part qs); ends = limited_ends (each_part modulo_part qs) (λ rs h. moduli_ends qs rs h) }

pub both_hold : (ps qs : List Part) → AllEnds ps → AllEnds qs → length (ps ++ qs) ≤ 64 → IsConstraint (ps ++ qs)
both_hold ps qs i j h = record { few = h; ends = all_ends_append ps qs i j }
