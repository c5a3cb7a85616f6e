-- An end that is an integer is that integer, rounded up or down.
use Rattle.std.proofs.Common.{◌≡◌, ap, ◌∙◌, arith}
use Rattle.std.proofs.Math.IntN.{ℤ, pos, negsuc, ◌-ℤ◌}
use Rattle.std.proofs.lemmas.Int.{ints}
use Rattle.asl_poly.specs.Fractions.{whole}
use Rattle.asl_rules.specs.types.Closed.{floor, ceiling}

pub whole_floor : (z : ℤ) → floor (whole z) ≡ z
whole_floor (pos n) = ap pos (omega arith)
whole_floor (negsuc n) = ap negsuc (omega arith)

twice : (z : ℤ) → pos 0 -ℤ (pos 0 -ℤ z) ≡ z
twice z = omega (arith, ints)

pub whole_ceiling : (z : ℤ) → ceiling (whole z) ≡ z
whole_ceiling z = ap (λ y. pos 0 -ℤ y) (whole_floor (pos 0 -ℤ z)) ∙ twice z
