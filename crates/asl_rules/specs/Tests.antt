-- What comes in beside a program's text: the width limit, and tests that can't be computed from the text alone, whether two widths are the same, and whether
-- a constraint is below another. Whatever right tests are taken, they answer alike.
use Rattle.std.specs.Prelude.{◌≡◌, ◌≤◌, ℕ, Bool, true, List}
use Rattle.asl_poly.specs.Terms.{Polynomial}
use Rattle.asl_poly.specs.WidthLimits.{heaviest}
use Rattle.asl_poly.specs.Poly.{IsPolynomial, Same}
use Rattle.asl_cons.specs.declared.Part.{Part}
use Rattle.asl_cons.specs.Constraint.{AllEnds, Below}

pub record Tests : Type 0 where
  pub limit : ℕ
  pub same : Polynomial → Polynomial → Bool
  pub below : List Part → List Part → Bool

-- two widths have one value for all integers at the atoms
pub record SameWidth (p q : Polynomial) : Type 0 where
  pub left : IsPolynomial p
  pub right : IsPolynomial q
  pub same : Same p q

-- one constraint is below another
pub record Inside (ps qs : List Part) : Type 0 where
  pub left : AllEnds ps
  pub right : AllEnds qs
  pub below : Below ps qs

-- no bits within the limit are wider than the weight that a width may have
unfoldable pub IsLight : ℕ → Type 0
IsLight limit = limit ≤ heaviest

-- the two tests are right; the limit may be any number up to the weight that a width may have
pub record IsRight (t : Tests) : Type 0 where
  pub within : IsLight t.limit
  pub same_yes : (p q : Polynomial) → t.same p q ≡ true → SameWidth p q
  pub same_all : (p q : Polynomial) → SameWidth p q → t.same p q ≡ true
  pub below_yes : (ps qs : List Part) → t.below ps qs ≡ true → Inside ps qs
  pub below_all : (ps qs : List Part) → Inside ps qs → t.below ps qs ≡ true
