-- Integers for names that agree with a scope, the fractions that names stand for then, and scopes in which each `let` counts as names that stand for
-- themselves.
use Rattle.std.specs.Prelude.{◌≡◌, ℕ, ◌<◌, ℤ, List, [], ◌∷◌, Option, Some, None}
use Rattle.asl_poly.specs.Terms.{Summand}
use Rattle.asl_poly.specs.Fractions.{Fraction, SameFraction, whole, fraction_at}
use Rattle.asl_poly.specs.Poly.{IsPolynomial}
use Rattle.asl_rules.specs.values.Values.{int}
use Rattle.asl_rules.specs.declarations.Scopes.{Counted, Entry, Storage, atom_at, next_atom, name_at, storage_of, known_value}
use Rattle.asl_rules.specs.types.Numbers.{Fractions}

-- an integer for each name; that of a `let` that counts as a width with other names in it isn't looked at
abbrev pub Integers : Type 0
Integers = List ℕ → ℤ

-- the integers of the names by their atoms
abbrev pub by_place : List Entry → Integers → ℕ → ℤ
by_place names a n = a (name_at names n)

-- what a name with this integer counts as
abbrev pub counted_for : (ℕ → ℤ) → ℤ → Option Counted → Fraction
counted_for b z None = whole z
counted_for b z (Some c) = fraction_at b c.poly

abbrev pub stored_for : (ℕ → ℤ) → ℤ → Option Storage → Fraction
stored_for b z None = whole z
stored_for b z (Some s) = counted_for b z s.counted

-- the fraction that a name stands for: its integer, and where it counts in widths, that of what it counts as
abbrev pub fraction_for : List Entry → Integers → List ℕ → Fraction
fraction_for names a name = stored_for (by_place names a) (a name) (storage_of name names)

abbrev pub standing_for : List Entry → Integers → Fractions
standing_for names a name = Some (fraction_for names a name)

-- both are one fraction
abbrev pub AreSame : Option Fraction → Option Fraction → Type 0
AreSame (Some r) (Some s) = SameFraction r s
AreSame (Some r) None = ⊥
AreSame None (Some s) = ⊥
AreSame None None = Unit {0}

-- the integers agree with the names: a constant and a global `let` have their values
pub record Obeys (names : List Entry) (a : Integers) : Type 0 where
  pub known : (name : List ℕ) (s : Storage) (z : ℤ) → storage_of name names ≡ Some s → known_value s ≡ Some (int z) → a name ≡ z

-- ---- scopes in which a `let` counts as names that stand for themselves

-- the name with an atom stands for itself
abbrev pub Alone : List Entry → ℕ → Type 0
Alone names n = (s : Storage) × (n < next_atom names) × (storage_of (name_at names n) names ≡ Some s) × (s.counted ≡ Some (atom_at n))

-- each of these atoms is such
abbrev pub AllOf : (ℕ → Type 0) → List ℕ → Type 0
AllOf A [] = Unit {0}
AllOf A (x ∷ xs) = A x × AllOf A xs

-- each atom of the terms is
abbrev pub AtomsOf : (ℕ → Type 0) → List Summand → Type 0
AtomsOf A [] = Unit {0}
AtomsOf A (t ∷ ts) = AllOf A t.factors × AtomsOf A ts

abbrev pub AllAlone : List Entry → List ℕ → Type 0
AllAlone names xs = AllOf (Alone names) xs

abbrev pub AtomsAlone : List Entry → List Summand → Type 0
AtomsAlone names ts = AtomsOf (Alone names) ts

-- what counts in widths is within the limits
abbrev pub IsHeld : Option Counted → Type 0
IsHeld None = Unit {0}
IsHeld (Some c) = IsPolynomial c.poly

-- what a name counts as has atoms of such names alone and is within the limits, and no name that counts has a value that is known before any run
pub record WellCounted (names : List Entry) : Type 0 where
  pub alone : (name : List ℕ) (s : Storage) (c : Counted) → storage_of name names ≡ Some s → s.counted ≡ Some c → AtomsAlone names c.poly.terms
  pub within : (name : List ℕ) (s : Storage) (c : Counted) → storage_of name names ≡ Some s → s.counted ≡ Some c → IsPolynomial c.poly
  pub unknown : (name : List ℕ) (s : Storage) (c : Counted) → storage_of name names ≡ Some s → s.counted ≡ Some c → known_value s ≡ None
