-- Polynomials as lists of terms over a denominator: the value of the terms, and their normal form.
use Rattle.std.specs.Prelude.{◌≡◌, ◌≢◌, ℕ, ◌≤◌, ℤ, pos, ◌+ℤ◌, ◌*ℤ◌, List, [], ◌∷◌, length, nat_lt, if◌then◌else◌}
use Rattle.std.specs.declared.cmp.Ordering.{Ordering}
use Rattle.std.specs.declared.cmp.Ordering.TheVariants.{Less, Equal, Greater}
use Rattle.asl_poly.specs.WidthLimits.{highest}

-- one term of a polynomial: a coefficient, and the atoms that it is multiplied with, each as often as it is a factor, the greatest first
pub record Summand : Type 0 where
  pub coefficient : ℤ
  pub factors : List ℕ

-- a polynomial: the sum of its terms, over a denominator
pub record Polynomial : Type 0 where
  pub terms : List Summand
  pub denominator : ℕ

abbrev pub over : List Summand → ℕ → Polynomial
over ts d = record { terms = ts; denominator = d }

abbrev pub of_terms : List Summand → Polynomial
of_terms ts = over ts 1

-- ---- the value of the terms, where `a` gives an integer to each atom

abbrev pub product : (ℕ → ℤ) → List ℕ → ℤ
product a [] = pos 1
product a (x ∷ xs) = a x *ℤ product a xs

abbrev pub value : (ℕ → ℤ) → List Summand → ℤ
value a [] = pos 0
value a (t ∷ ts) = t.coefficient *ℤ product a t.factors +ℤ value a ts

-- ---- the normal form: the terms sorted, the greatest monomial first, and no coefficient 0

abbrev pub atom_order : ℕ → ℕ → Ordering → Ordering
atom_order x y rest = if nat_lt x y then Less else (if nat_lt y x then Greater else rest)

-- monomials are compared by their greatest atoms, then by the next ones; a prefix is the smaller one
abbrev pub order : List ℕ → List ℕ → Ordering
order [] [] = Equal
order [] (y ∷ ys) = Less
order (x ∷ xs) [] = Greater
order (x ∷ xs) (y ∷ ys) = atom_order x y (order xs ys)

abbrev pub AllUpTo : ℕ → List ℕ → Type 0
AllUpTo n [] = Unit {0}
AllUpTo n (x ∷ xs) = (x ≤ n) × AllUpTo n xs

-- the greatest atom stands first
abbrev pub Falls : List ℕ → Type 0
Falls [] = Unit {0}
Falls (x ∷ xs) = AllUpTo x xs × Falls xs

-- the monomial of each term is smaller than ms
abbrev pub AllBelow : List ℕ → List Summand → Type 0
AllBelow ms [] = Unit {0}
AllBelow ms (t ∷ ts) = (order t.factors ms ≡ Less) × AllBelow ms ts

pub record IsTerm (t : Summand) : Type 0 where
  pub counts : t.coefficient ≢ pos 0
  pub falls : Falls t.factors
  pub degree : length t.factors ≤ highest

abbrev pub Sorted : List Summand → Type 0
Sorted [] = Unit {0}
Sorted (t ∷ ts) = IsTerm t × AllBelow t.factors ts × Sorted ts
