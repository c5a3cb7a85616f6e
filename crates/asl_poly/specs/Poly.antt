-- What the operations on polynomials answer: the value of the result, when it is too large, and its terms.
use Rattle.std.specs.Prelude.{◌≡◌, ℕ, ◌+◌, ◌*◌, ◌/◌, ◌%◌, ◌≤◌, ◌==◌, Bool, false, ◌&&◌, ◌||◌, if◌then◌else◌, ℤ, pos, negsuc, ◌+ℤ◌, ◌-ℤ◌, ◌*ℤ◌, ◌≤ℤ◌, List, [], ◌∷◌, length, unsigned_abs, Option, Some, None, Result, Ok, Err}
use Rattle.std.specs.Option.{is_none}
use Rattle.asl_poly.specs.declared.PolyRefused.{PolyRefused}
use Rattle.asl_poly.specs.declared.PolyRefused.TheVariants.{TooLarge, NoMemory}
use Rattle.asl_poly.specs.WidthLimits.{heaviest, highest, most_atoms, finest}
use Rattle.asl_poly.specs.Terms.{Summand, Polynomial, of_terms, value}
use Rattle.asl_poly.specs.Limits.{IsMap, weight, degree, note_terms, atoms_of_both}
use Rattle.asl_poly.specs.Operations.{constant_of, constant_terms, atom_terms, sum_terms, difference_terms, product_terms}
use Rattle.asl_poly.specs.Denominators.{IsLowest, least_common_multiple, raised, lowest}
use Rattle.asl_poly.specs.Fractions.{SameFraction, fraction_at, worth}
use Rattle.asl_poly.specs.Substitute.{replaced, replaced_at, with_common_denominator, common_denominator, ReplacedFits}

-- ---- What a polynomial is worth, where `a` gives an integer to each atom: the value of its terms over its denominator. Crates
-- above use these words alone, and no equation of values.

-- p is the integer n: n times the denominator is the value of the terms
abbrev pub HasWidth : Polynomial → (ℕ → ℤ) → ℤ → Type 0
HasWidth p a n = value a p.terms ≡ n *ℤ pos p.denominator

-- p and q are one fraction
abbrev pub SameAt : (ℕ → ℤ) → Polynomial → Polynomial → Type 0
SameAt a p q = value a p.terms *ℤ pos q.denominator ≡ value a q.terms *ℤ pos p.denominator

-- p is at most i
abbrev pub IsAtMost : (ℕ → ℤ) → Polynomial → ℤ → Type 0
IsAtMost a p i = value a p.terms ≤ℤ (i *ℤ pos p.denominator)

-- p is at least i
abbrev pub IsAtLeast : (ℕ → ℤ) → Polynomial → ℤ → Type 0
IsAtLeast a p i = (i *ℤ pos p.denominator) ≤ℤ value a p.terms

-- one fraction for all integers at the atoms
abbrev pub Same : Polynomial → Polynomial → Type 0
Same p q = (a : ℕ → ℤ) → SameAt a p q

-- p is the integer c for all integers at the atoms
abbrev pub IsConstant : Polynomial → ℤ → Type 0
IsConstant p c = (a : ℕ → ℤ) → HasWidth p a c

-- p is q and one number, for all integers at the atoms: c over the product of the denominators
abbrev pub IsOffset : Polynomial → Polynomial → ℤ → Type 0
IsOffset p q c = (a : ℕ → ℤ) → value a p.terms *ℤ pos q.denominator ≡ value a q.terms *ℤ pos p.denominator +ℤ c

-- r is the sum of p and q, for all integers at the atoms; likewise below
abbrev pub IsSum : Polynomial → Polynomial → Polynomial → Type 0
IsSum p q r =
    (a : ℕ → ℤ) → value a r.terms *ℤ pos (p.denominator * q.denominator)
    ≡ (value a p.terms *ℤ pos q.denominator +ℤ value a q.terms *ℤ pos p.denominator) *ℤ pos r.denominator

abbrev pub IsDifference : Polynomial → Polynomial → Polynomial → Type 0
IsDifference p q r =
    (a : ℕ → ℤ) → value a r.terms *ℤ pos (p.denominator * q.denominator)
    ≡ (value a p.terms *ℤ pos q.denominator -ℤ value a q.terms *ℤ pos p.denominator) *ℤ pos r.denominator

abbrev pub IsProduct : Polynomial → Polynomial → Polynomial → Type 0
IsProduct p q r =
    (a : ℕ → ℤ) → value a r.terms *ℤ pos (p.denominator * q.denominator) ≡ (value a p.terms *ℤ value a q.terms) *ℤ pos r.denominator

-- r is p divided by k
abbrev pub IsQuotient : Polynomial → ℕ → Polynomial → Type 0
IsQuotient p k r = (a : ℕ → ℤ) → value a r.terms *ℤ pos (p.denominator * k) ≡ value a p.terms *ℤ pos r.denominator

-- r is p with the fractions of the polynomials of `by` at their atoms, all at once
abbrev pub IsSubstituted : List (ℕ × Polynomial) → Polynomial → Polynomial → Type 0
IsSubstituted by p r = (a : ℕ → ℤ) → SameFraction (fraction_at a r) (worth (replaced_at a by) p)

-- the denominator of a sum, or of a difference, before lowest terms
abbrev pub sum_denominator : Polynomial → Polynomial → ℕ
sum_denominator p q = least_common_multiple p.denominator q.denominator

-- the weight of p over the denominator n, which is a multiple of its own
abbrev pub weight_over : ℕ → Polynomial → ℕ
weight_over n p = weight p.terms * (n / p.denominator)

-- ---- The limits. They speak of coefficients and denominators, and count over the parts, before terms of different parts cancel
-- and before lowest terms.

-- what every `Poly` is
pub record IsPolynomial (p : Polynomial) : Type 0 where
  pub map : IsMap p.terms
  pub lowest : IsLowest p
  pub fine : p.denominator ≤ finest

pub record ConstantFits (c : ℤ) : Type 0 where
  pub light : unsigned_abs c ≤ heaviest

-- a sum, or a difference
pub record SumFits (p q : Polynomial) : Type 0 where
  pub light : weight_over (sum_denominator p q) p + weight_over (sum_denominator p q) q ≤ heaviest
  pub few : length (atoms_of_both p.terms q.terms) ≤ most_atoms
  pub fine : sum_denominator p q ≤ finest

pub record ProductFits (p q : Polynomial) : Type 0 where
  pub light : weight p.terms * weight q.terms ≤ heaviest
  pub low : degree p.terms + degree q.terms ≤ highest
  pub few : length (atoms_of_both p.terms q.terms) ≤ most_atoms
  pub fine : p.denominator * q.denominator ≤ finest

-- the quotient by k
pub record QuotientFits (p : Polynomial) (k : ℕ) : Type 0 where
  pub fine : p.denominator * k ≤ finest

pub record SubstituteFits (by : List (ℕ × Polynomial)) (p : Polynomial) : Type 0 where
  pub terms : ReplacedFits by (with_common_denominator by p.terms)
  pub fine : common_denominator by p.terms * p.denominator ≤ finest

-- ---- The coefficient maps that the operations make.

unfoldable pub constant_map : ℤ → Polynomial
constant_map c = of_terms (constant_terms c)

unfoldable pub atom_map : ℕ → Polynomial
atom_map x = of_terms (atom_terms x)

unfoldable pub sum_map : Polynomial → Polynomial → Polynomial
sum_map p q = lowest (sum_terms (raised (sum_denominator p q) p) (raised (sum_denominator p q) q)) (sum_denominator p q)

unfoldable pub difference_map : Polynomial → Polynomial → Polynomial
difference_map p q = lowest (difference_terms (raised (sum_denominator p q) p) (raised (sum_denominator p q) q)) (sum_denominator p q)

unfoldable pub product_map : Polynomial → Polynomial → Polynomial
product_map p q = lowest (product_terms p.terms q.terms) (p.denominator * q.denominator)

unfoldable pub quotient_map : Polynomial → ℕ → Polynomial
quotient_map p k = lowest p.terms (p.denominator * k)

unfoldable pub substitute_map : List (ℕ × Polynomial) → Polynomial → Polynomial
substitute_map by p = lowest (replaced by [] (with_common_denominator by p.terms)) (common_denominator by p.terms * p.denominator)

-- the integer that p is, where it has no atom and is whole
unfoldable pub constant_value : Polynomial → Option ℤ
constant_value p = if p.denominator == 1 then constant_of p.terms else None

-- ---- What crates above ask of terms: each question has the denominator in it, and none of them reads terms by itself.

-- the integer that p times its denominator is, where it has no atom
abbrev pub number_over : Polynomial → Option ℤ
number_over p = constant_of p.terms

-- p has an atom
abbrev pub varies : Polynomial → Bool
varies p = is_none (number_over p)

-- a number that k, which is above 0, divides
abbrev pub is_multiple : ℕ → Option ℤ → Bool
is_multiple k None = false
is_multiple k (Some z) = unsigned_abs z % k == 0

-- k divides p: for some integers at the atoms at least, and where there is no atom, for good
abbrev pub may_divide : ℕ → Polynomial → Bool
may_divide k p = varies p || is_multiple k (constant_value p)

abbrev pub is_one : ℤ → Bool
is_one (pos n) = n == 1
is_one (negsuc n) = false

abbrev pub is_only : ℕ → List ℕ → Bool
is_only n (x ∷ []) = x == n
is_only n xs = false

abbrev pub is_factor : ℕ → List Summand → Bool
is_factor n (t ∷ []) = is_one t.coefficient && is_only n t.factors
is_factor n ts = false

-- p is the atom n alone
abbrev pub is_atom : ℕ → Polynomial → Bool
is_atom n p = (p.denominator == 1) && is_factor n p.terms

-- the atoms of p, each once, after those of `seen`
abbrev pub with_atoms_of : List ℕ → Polynomial → List ℕ
with_atoms_of seen p = note_terms seen p.terms

-- the answer r of an operation that makes m within its limits
abbrev pub Gives : Type 0 → Polynomial → Result Polynomial PolyRefused → Type 0
Gives Fits m (Ok r) = Fits × (r ≡ m)
Gives Fits m (Err TooLarge) = Fits → ⊥
Gives Fits m (Err NoMemory) = Unit {0}
