-- Numbers of widths and constraints outside bodies.
use Rattle.std.specs.Prelude.{ℕ, ℤ, pos, List, [], ◌∷◌}
use Rattle.asl_poly.specs.Fractions.{Fraction}
use Rattle.asl_rules.specs.types.Closed.{Range}

-- the number in a term, which has none where it has factors
abbrev pub last_number : ℤ → List ℕ → ℤ
last_number c [] = c
last_number c (x ∷ xs) = pos 0

-- a number over a denominator
abbrev pub over : ℤ → ℕ → Fraction
over z n = record { number = z; denominator = n }

-- the integers from a to b
abbrev pub range : ℤ → ℤ → Range
range a b = record { low = a; high = b }
