-- What right tests answer, by what the calls on widths and constraints answer.
use Rattle.std.proofs.Common.{◌≡◌, ◌↔◌, nat_eq, Bool, true, false, List, [], ◌∷◌, length, inl, refl, sym, ap, subst, ◌∙◌, arith}
use Rattle.std.specs.Prelude.{pos, IsTrue}
use Rattle.std.proofs.lemmas.Bool.Decides.{nat_tests}
use Rattle.asl_poly.specs.Terms.{Polynomial, Summand, of_terms}
use Rattle.asl_poly.specs.Limits.{IsMap}
use Rattle.asl_poly.specs.Denominators.{DivideEach, sizes}
use Rattle.asl_poly.proofs.LowestTerms.{one_is_polynomial}
use Rattle.asl_poly.proofs.SameFractions.{same_polynomial, same_of_equal, same_everywhere}
use Rattle.std.proofs.Math.Nat.{mod_self}
use Rattle.asl_poly.specs.Poly.{IsPolynomial, Same, constant_map}
use Rattle.asl_cons.specs.declared.Part.{Part}
use Rattle.asl_cons.specs.Constraint.{AllEnds, Below}
use Rattle.asl_rules.specs.Tests.{Tests, IsRight}

zero_map : constant_map (pos 0) ≡ of_terms []
unfolding constant_map
zero_map = refl

no_terms_map : IsMap []
no_terms_map = record { sorted = tt; light = omega arith; few = omega arith }

zero_polynomial : IsPolynomial (constant_map (pos 0))
zero_polynomial = subst IsPolynomial (sym zero_map) (one_is_polynomial [] no_terms_map)

-- two truths that follow from one another
same_truth : (b c : Bool) → (b ≡ true → c ≡ true) → (c ≡ true → b ≡ true) → b ≡ c
same_truth true c f g = sym (f refl)
same_truth false true f g = g refl
same_truth false false f g = refl

pub same_is : (t : Tests) (r : IsRight t) (b : Bool) (p q : Polynomial) → IsPolynomial p → IsPolynomial q → (IsTrue b ↔ Same p q) → b ≡ t.same p q
same_is t r b p q hp hq h = same_truth b (t.same p q) (λ e. r.same_all p q (record { left = hp; right = hq; same = h.0 e })) (λ e. h.1 (r.same_yes p q e).same)

pub below_is : (t : Tests) (r : IsRight t) (b : Bool) (ps qs : List Part) → AllEnds ps → AllEnds qs → (IsTrue b ↔ Below ps qs) → b ≡ t.below ps qs
below_is t r b ps qs hp hq h = same_truth b (t.below ps qs) (λ e. r.below_all ps qs (record { left = hp; right = hq; below = h.0 e })) (λ e. h.1 (r.below_yes ps qs e).below)

pub whole_is : (t : Tests) (r : IsRight t) (ps : List Part) → AllEnds ps → true ≡ t.below ps []
whole_is t r ps hp = sym (r.below_all ps [] (record { left = hp; right = tt; below = inl refl }))

none : (ts : List Summand) → length ts ≡ 0 → ts ≡ []
none [] h = refl
none (t ∷ ts) h = absurd (omega (arith, h))

-- without terms the denominator is 1, in lowest terms
no_terms : (p : Polynomial) → IsPolynomial p → length p.terms ≡ 0 → p ≡ constant_map (pos 0)
no_terms p hp h =
    let e : p.terms ≡ [] = none p.terms h in
    let each : DivideEach p.denominator (sizes p.terms) = subst (λ ts. DivideEach p.denominator (sizes ts)) (sym e) tt in
    same_polynomial p (of_terms []) e (hp.lowest.lowest p.denominator (mod_self p.denominator) each) ∙ sym zero_map

pub zero_is : (t : Tests) (r : IsRight t) (p : Polynomial) → IsPolynomial p → nat_eq (length p.terms) 0 ≡ t.same p (constant_map (pos 0))
zero_is t r p hp = same_is t r (nat_eq (length p.terms) 0) p (constant_map (pos 0)) hp zero_polynomial (yes, no)
  where
    yes : nat_eq (length p.terms) 0 ≡ true → Same p (constant_map (pos 0))
    yes e = same_of_equal p (constant_map (pos 0)) (no_terms p hp (grind (arith, nat_tests, e)))

    no : Same p (constant_map (pos 0)) → nat_eq (length p.terms) 0 ≡ true
    no e = ap (λ (q : Polynomial). nat_eq (length q.terms) 0) (same_everywhere p (constant_map (pos 0)) hp zero_polynomial e ∙ zero_map)
