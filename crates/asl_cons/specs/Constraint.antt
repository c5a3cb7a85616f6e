-- Constraints as lists of parts, where no parts are the whole constraint: which integers they allow, and when one is below
-- another.
use Rattle.std.specs.Prelude.{◌≡◌, ◌≢◌, ℕ, ◌≤◌, ℤ, pos, ◌≤ℤ◌, List, [], ◌∷◌, length, ◌⊎◌}
use Rattle.asl_poly.specs.Terms.{Polynomial}
use Rattle.asl_poly.specs.Poly.{IsAtMost, IsAtLeast, IsConstant, IsOffset, IsPolynomial, constant_map}
use Rattle.asl_cons.specs.declared.End.{End}
use Rattle.asl_cons.specs.declared.End.TheVariants.{Int, Width}
use Rattle.asl_cons.specs.declared.Part.{Part}

-- an end as a polynomial
abbrev pub poly_of : End → Polynomial
poly_of (Int z) = constant_map z
poly_of (Width p) = p

-- ---- membership, where `a` gives an integer to each atom

-- i lies in a part
abbrev pub InSome : (ℕ → ℤ) → ℤ → List Part → Type 0
InSome a i [] = ⊥
InSome a i (p ∷ ps) = (IsAtMost a (poly_of p.low) i × IsAtLeast a (poly_of p.high) i) ⊎ InSome a i ps

-- i lies in the constraint; the whole one holds every integer
abbrev pub In : (ℕ → ℤ) → ℤ → List Part → Type 0
In a i ps = (ps ≡ []) ⊎ InSome a i ps

-- ---- what the ends of the code's parts are

abbrev pub IsEnd : End → Type 0
IsEnd (Int z) = Unit {0}
IsEnd (Width p) = IsPolynomial p

abbrev pub AllEnds : List Part → Type 0
AllEnds [] = Unit {0}
AllEnds (p ∷ ps) = (IsEnd p.low × IsEnd p.high) × AllEnds ps

-- what the code holds of a constraint: at most 64 parts, whose ends are polynomials within the limits
pub record IsConstraint (ps : List Part) : Type 0 where
  pub few : length ps ≤ 64
  pub ends : AllEnds ps

-- ---- inclusion

-- the end is c for all integers at the atoms
abbrev pub HasEnd : End → ℤ → Type 0
HasEnd e c = IsConstant (poly_of e) c

-- the part is constant, from l to h: both ends are integers
pub record IsFixed (p : Part) (l h : ℤ) : Type 0 where
  pub low : HasEnd p.low l
  pub high : HasEnd p.high h

-- the part is constant, and i lies in it
pub record Holds (p : Part) (i : ℤ) : Type 0 where
  pub l : ℤ
  pub h : ℤ
  pub fixed : IsFixed p l h
  pub least : l ≤ℤ i
  pub most : i ≤ℤ h

-- i lies in a constant part
abbrev pub InFixed : ℤ → List Part → Type 0
InFixed i [] = ⊥
InFixed i (p ∷ ps) = Holds p i ⊎ InFixed i ps

-- e is f and one number of at least 0, for all integers at the atoms: the number is `by` over the product of the denominators,
-- so it may be a fraction
pub record IsAbove (e f : End) : Type 0 where
  pub by : ℤ
  pub least : pos 0 ≤ℤ by
  pub apart : IsOffset (poly_of e) (poly_of f) by

-- one of the parts has p inside it for all integers at the atoms, by constant distances
abbrev pub Held : Part → List Part → Type 0
Held p [] = ⊥
Held p (q ∷ qs) = (IsAbove p.low q.low × IsAbove q.high p.high) ⊎ Held p qs

pub record IsCovered (qs : List Part) (p : Part) : Type 0 where
  pub constant : (l h : ℤ) → IsFixed p l h → (i : ℤ) → l ≤ℤ i → i ≤ℤ h → InFixed i qs
  pub symbolic : ((l h : ℤ) → IsFixed p l h → ⊥) → Held p qs

abbrev pub AllCovered : List Part → List Part → Type 0
AllCovered [] qs = Unit {0}
AllCovered (p ∷ ps) qs = IsCovered qs p × AllCovered ps qs

-- ps is below qs: qs is whole, or every integer of the constant parts of ps lies in a constant part of qs and each other part of ps is held by a part of qs
abbrev pub Below : List Part → List Part → Type 0
Below ps qs = (qs ≡ []) ⊎ ((ps ≢ []) × AllCovered ps qs)
