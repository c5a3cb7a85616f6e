-- The limits of widths, which every polynomial keeps. Whatever has to ask for one cites it from here.
use Rattle.std.specs.Prelude.{ℕ, ◌^◌}

-- the greatest weight, the sum of the absolute coefficients
abbrev pub heaviest : ℕ
heaviest = 2 ^ 62

-- the greatest degree, the number of factors of a term
abbrev pub highest : ℕ
highest = 4

-- the most atoms
abbrev pub most_atoms : ℕ
most_atoms = 8

-- the greatest denominator, before the lowest terms are found
abbrev pub finest : ℕ
finest = 2 ^ 16
