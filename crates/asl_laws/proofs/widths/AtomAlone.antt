-- A polynomial is the same as an atom exactly where it is that atom alone.
use Rattle.std.proofs.Common.{◌≡◌, ℕ, ◌==◌, ℤ, pos, negsuc, true, List, [], ◌∷◌, sym, ap, ap₂, subst}
use Rattle.asl_poly.specs.Terms.{Summand, Polynomial, over}
use Rattle.asl_poly.specs.Operations.{atom_terms}
use Rattle.asl_poly.specs.Poly.{IsPolynomial, Same, atom_map, is_one, is_only, is_factor, is_atom}
use Rattle.asl_poly.proofs.SameFractions.{same_polynomial, same_of_equal, same_everywhere}
use Rattle.asl_rules.specs.Tests.{Tests, IsRight}
use Rattle.asl_rules.proofs.basics.Tests.{no, both}
use Rattle.asl_rules.proofs.values.SameKind.{same_number, number_is}
use Rattle.asl_rules.proofs.widths.WidthsHeld.{atom_is_polynomial}
use Rattle.asl_laws.proofs.verdict.OneVerdict.{same_bool}

the_atom : (n : ℕ) → is_atom n (atom_map n) ≡ true
unfolding atom_map
the_atom n = number_is n

alone : (n : ℕ) (p : Polynomial) → IsPolynomial p → Same p (atom_map n) → is_atom n p ≡ true
alone n p m s = subst (λ q. is_atom n q ≡ true) (sym (same_everywhere p (atom_map n) m (atom_is_polynomial n) s)) (the_atom n)

one_is : (z : ℤ) → is_one z ≡ true → z ≡ pos 1
one_is (pos n) h = ap pos (same_number n 1 h)
one_is (negsuc n) h = no h

only_is : (n : ℕ) (xs : List ℕ) → is_only n xs ≡ true → xs ≡ n ∷ []
only_is n [] h = no h
only_is n (x ∷ []) h = ap (λ y. y ∷ []) (same_number x n h)
only_is n (x ∷ y ∷ xs) h = no h

terms_are : (n : ℕ) (ts : List Summand) → is_factor n ts ≡ true → ts ≡ atom_terms n
terms_are n [] h = no h
terms_are n (t ∷ []) h =
    let p = both (is_one t.coefficient) (is_only n t.factors) h in
    let made : ℤ → List ℕ → List Summand = λ c fs. record { coefficient = c; factors = fs } ∷ [] in
    ap₂ made (one_is t.coefficient p.0) (only_is n t.factors p.1)
terms_are n (t ∷ u ∷ ts) h = no h

is_the_atom : (n : ℕ) (p : Polynomial) → is_atom n p ≡ true → p ≡ atom_map n
unfolding atom_map
is_the_atom n p h =
    let q = both (p.denominator == 1) (is_factor n p.terms) h in
    same_polynomial p (over (atom_terms n) 1) (terms_are n p.terms q.1) (same_number p.denominator 1 q.0)

-- the test of a parameter alone is the test of the same width
pub atom_tested : (tests : Tests) → IsRight tests → (n : ℕ) (p : Polynomial) → IsPolynomial p → tests.same p (atom_map n) ≡ is_atom n p
atom_tested tests right n p m =
    same_bool (tests.same p (atom_map n)) (is_atom n p)
    (λ h. alone n p m (right.same_yes p (atom_map n) h).same)
    (λ h. right.same_all p (atom_map n) (record { left = m; right = atom_is_polynomial n; same = same_of_equal p (atom_map n) (is_the_atom n p h) }))
