-- Worked rows of widths.
use Rattle.std.proofs.Common.{◌≡◌, pos, [], ◌∷◌, Ok, refl}
use Rattle.asl_syn.specs.declared.token.Span.{Span}
use Rattle.asl_poly.specs.Terms.{Polynomial, of_terms}
use Rattle.asl_poly.specs.Poly.{constant_map, atom_map, sum_map, product_map, quotient_map}
use Rattle.asl_poly.specs.Denominators.{lowest, least_common_multiple, greatest_common_divisor}
use Rattle.asl_cons.specs.Arithmetic.{sum_fits, product_fits, quotient_fits}
use Rattle.asl_rules.specs.types.Widths.{width_sum, width_product, width_divided}

-- two times the atom 0
abbrev two_atoms : Polynomial
two_atoms = of_terms (record { coefficient = pos 2; factors = 0 ∷ [] } ∷ [])

-- `N+N` and `2*N` are one polynomial
twice : (span : Span) → width_sum span (atom_map 0) (atom_map 0) ≡ Ok two_atoms
unfolding atom_map sum_map sum_fits lowest least_common_multiple greatest_common_divisor
twice span = refl

times_two : (span : Span) → width_product span (constant_map (pos 2)) (atom_map 0) ≡ Ok two_atoms
unfolding atom_map constant_map product_map product_fits lowest greatest_common_divisor
times_two span = refl

-- so is half of it, twice
halves : (span : Span) → width_divided span two_atoms 2 ≡ Ok (atom_map 0)
unfolding atom_map quotient_map quotient_fits lowest greatest_common_divisor
halves span = refl
