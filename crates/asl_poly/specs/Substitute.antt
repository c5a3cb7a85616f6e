-- Polynomials in the place of atoms: the limits, and the result.
use Rattle.std.specs.Prelude.{ℕ, ◌+◌, ◌*◌, ◌/◌, ◌<◌, ◌≤◌, ◌==◌, if◌then◌else◌, ℤ, pos, ◌*ℤ◌, List, [], ◌∷◌, length, max, unsigned_abs}
use Rattle.asl_poly.specs.WidthLimits.{heaviest, highest, most_atoms, finest}
use Rattle.asl_poly.specs.Terms.{Summand, Polynomial, value}
use Rattle.asl_poly.specs.Limits.{IsMap, weight, degree, note_terms}
use Rattle.asl_poly.specs.Operations.{atom_terms, constant_term, gather, product_terms, with_coefficient}
use Rattle.asl_poly.specs.Denominators.{least_common_multiple}
use Rattle.asl_poly.specs.Fractions.{Fraction}

-- what stands for the atom: the first polynomial given for it, else the atom itself; its terms
abbrev pub map_at : List (ℕ × Polynomial) → ℕ → List Summand
map_at [] x = atom_terms x
map_at (e ∷ by) x = if x == e.0 then e.1.terms else map_at by x

-- its denominator
abbrev pub denominator_at : List (ℕ × Polynomial) → ℕ → ℕ
denominator_at [] x = 1
denominator_at (e ∷ by) x = if x == e.0 then e.1.denominator else denominator_at by x

-- what stands for each of the atoms is within the limits
abbrev pub AreMaps : List (ℕ × Polynomial) → List ℕ → Type 0
AreMaps by [] = Unit {0}
AreMaps by (x ∷ xs) = IsMap (map_at by x) × AreMaps by xs

-- what stands for each atom of the terms is within the limits
abbrev pub AllMaps : List (ℕ × Polynomial) → List Summand → Type 0
AllMaps by [] = Unit {0}
AllMaps by (t ∷ ts) = AreMaps by t.factors × AllMaps by ts

-- ---- the limits: each atom of a term counts as what stands for it

abbrev pub factors_weight : List (ℕ × Polynomial) → List ℕ → ℕ
factors_weight by [] = 1
factors_weight by (x ∷ xs) = weight (map_at by x) * factors_weight by xs

abbrev pub replaced_weight : List (ℕ × Polynomial) → List Summand → ℕ
replaced_weight by [] = 0
replaced_weight by (t ∷ ts) = unsigned_abs t.coefficient * factors_weight by t.factors + replaced_weight by ts

abbrev pub factors_degree : List (ℕ × Polynomial) → List ℕ → ℕ
factors_degree by [] = 0
factors_degree by (x ∷ xs) = degree (map_at by x) + factors_degree by xs

abbrev pub replaced_degree : List (ℕ × Polynomial) → List Summand → ℕ
replaced_degree by [] = 0
replaced_degree by (t ∷ ts) = max (factors_degree by t.factors) (replaced_degree by ts)

abbrev pub note_maps : List (ℕ × Polynomial) → List ℕ → List ℕ → List ℕ
note_maps by seen [] = seen
note_maps by seen (x ∷ xs) = note_maps by (note_terms seen (map_at by x)) xs

-- the atoms of all that stands for the atoms of the terms, each once, after those of `seen`
abbrev pub note_replaced : List (ℕ × Polynomial) → List ℕ → List Summand → List ℕ
note_replaced by seen [] = seen
note_replaced by seen (t ∷ ts) = note_replaced by (note_maps by seen t.factors) ts

-- the denominator of what stands for an atom is above 0 and within the limit
abbrev pub AllFine : List (ℕ × Polynomial) → Type 0
AllFine by = (x : ℕ) → (0 < denominator_at by x) × (denominator_at by x ≤ finest)

-- the limits of the terms with their atoms replaced
pub record ReplacedFits (by : List (ℕ × Polynomial)) (ts : List Summand) : Type 0 where
  pub light : replaced_weight by ts ≤ heaviest
  pub low : replaced_degree by ts ≤ highest
  pub few : length (note_replaced by [] ts) ≤ most_atoms

-- ---- one denominator for all terms

-- the denominator of a term: the product of those of what stands for its atoms
abbrev pub factors_denominator : List (ℕ × Polynomial) → List ℕ → ℕ
factors_denominator by [] = 1
factors_denominator by (x ∷ xs) = denominator_at by x * factors_denominator by xs

-- the least common multiple of n and of the denominators of the terms
abbrev pub common_denominator_from : List (ℕ × Polynomial) → ℕ → List Summand → ℕ
common_denominator_from by n [] = n
common_denominator_from by n (t ∷ ts) = common_denominator_from by (least_common_multiple n (factors_denominator by t.factors)) ts

-- the least common multiple of the denominators of the terms
abbrev pub common_denominator : List (ℕ × Polynomial) → List Summand → ℕ
common_denominator by ts = common_denominator_from by 1 ts

-- the term over the denominator n, which is a multiple of its own
abbrev pub raised_term : List (ℕ × Polynomial) → ℕ → Summand → Summand
raised_term by n t = with_coefficient (pos (n / factors_denominator by t.factors) *ℤ t.coefficient) t

-- the terms over the denominator n
abbrev pub raised_terms : List (ℕ × Polynomial) → ℕ → List Summand → List Summand
raised_terms by n [] = []
raised_terms by n (t ∷ ts) = raised_term by n t ∷ raised_terms by n ts

-- the terms over their common denominator, so that their atoms are replaced by terms alone
abbrev pub with_common_denominator : List (ℕ × Polynomial) → List Summand → List Summand
with_common_denominator by ts = raised_terms by (common_denominator by ts) ts

-- ---- the result

abbrev pub times_maps : List (ℕ × Polynomial) → List Summand → List ℕ → List Summand
times_maps by product [] = product
times_maps by product (x ∷ xs) = times_maps by (product_terms product (map_at by x)) xs

-- the terms `sum` with each of these added, its atoms replaced
abbrev pub replaced : List (ℕ × Polynomial) → List Summand → List Summand → List Summand
replaced by sum [] = sum
replaced by sum (t ∷ ts) = replaced by (gather sum (times_maps by (constant_term t.coefficient ∷ []) t.factors)) ts

-- the fraction that stands for the atom x, where `a` gives an integer to each atom
abbrev pub replaced_at : (ℕ → ℤ) → List (ℕ × Polynomial) → ℕ → Fraction
replaced_at a by x = record { number = value a (map_at by x); denominator = denominator_at by x }
