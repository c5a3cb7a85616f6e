-- What widths are worth over fractions, which no limit bounds: what a width has there, and when two are the same.
use Rattle.std.specs.Prelude.{◌≡◌, ℕ, ℤ, List, Some}
use Rattle.asl_syn.specs.declared.tree.Expr.{Expr}
use Rattle.asl_poly.specs.Terms.{Polynomial}
use Rattle.asl_poly.specs.Poly.{IsPolynomial}
use Rattle.asl_poly.specs.Fractions.{Fraction, SameFraction, fraction_at}
use Rattle.asl_rules.specs.types.Numbers.{fraction, IsWhole}
use Rattle.asl_rules.specs.declarations.Scopes.{Entry, Storage, Counted, storage_of}
use Rattle.asl_rules.specs.private.Worth.{Integers, standing_for, by_place, AreSame, Obeys, Alone}

-- what counts in widths is within the limits: a polynomial that isn't may have any denominator, and what is made of it stands for nothing
abbrev pub CountsWithin : List Entry → Type 0
CountsWithin names = (name : List ℕ) (s : Storage) (c : Counted) → storage_of name names ≡ Some s → s.counted ≡ Some c → IsPolynomial c.poly

-- an expression has a fraction where names stand for what these integers make of them, and the polynomial has that one
abbrev pub HasWorth : Expr → List Entry → Integers → Polynomial → Type 0
HasWorth e names a p = (r : Fraction) × (fraction e (standing_for names a) ≡ Some r) × SameFraction r (fraction_at (by_place names a) p)

-- or it has this integer
abbrev pub HasWhole : Expr → List Entry → Integers → ℤ → Type 0
HasWhole e names a z = (r : Fraction) × (fraction e (standing_for names a) ≡ Some r) × IsWhole z r

-- two expressions have one fraction, wherever the integers of the names agree with what stands there
abbrev pub SameWorth : List Entry → Expr → Expr → Type 0
SameWorth names e f = (a : Integers) → Obeys names a → AreSame (fraction e (standing_for names a)) (fraction f (standing_for names a))

-- there are integers that agree with the names, with any that are wanted at the names that stand for themselves
abbrev pub HasIntegers : List Entry → (ℕ → ℤ) → Type 0
HasIntegers names b = (a : Integers) × Obeys names a × ((n : ℕ) → Alone names n → by_place names a n ≡ b n)
