-- Sums of many widths: those of the code, and those of the rules.
use Rattle.std.specs.Prelude.{◌≡◌, ◌<◌, nat_le, false, ◌&&◌, length, Option, Some, None}
use Rattle.asl_poly.specs.Terms.{Polynomial}
use Rattle.asl_poly.specs.Poly.{sum_map, difference_map}
use Rattle.asl_rules.proofs.widths.Totals.{Fits, Counts}
use Rattle.asl_rules.specs.types.Widths as rules
use Rattle.asl_poly.specs.WidthLimits.{heaviest, most_atoms, finest}
use Rattle.asl_rules.specs.types.Widths.{plus, minus}
use Rattle.asl_types.specs.declared.totals.Total.{Total}
use Rattle.asl_types.specs.declared.totals.within.Within.{Within}
use Rattle.asl_types.specs.declared.totals.Sign.{Sign}
use Rattle.asl_types.specs.declared.totals.Sign.TheVariants.{Plus, Minus}

-- the sum, its weight, its denominator and its atoms, which are within the limits
pub record IsWithin (w : Within) (x : rules.Total) : Type 0 where
  pub sum : w.sum ≡ x.sum
  pub weighs : w.weight ≡ x.weight
  pub over : w.denominator ≡ x.denominator
  pub atoms : w.atoms ≡ x.atoms
  pub fits : Fits x
  pub counts : Counts x

-- past the limits
pub record IsPast (x : rules.Total) : Type 0 where
  pub positive : 0 < x.denominator
  pub past : (nat_le x.weight heaviest && (nat_le (length x.atoms) most_atoms && nat_le x.denominator finest)) ≡ false

abbrev pub IsTotalOf : Option Within → rules.Total → Type 0
IsTotalOf (Some w) x = IsWithin w x
IsTotalOf None x = IsPast x

abbrev pub IsTotal : Total → rules.Total → Type 0
IsTotal t x = IsTotalOf t.within x

abbrev pub adds : Sign → rules.Total → Polynomial → rules.Total
adds Plus x p = plus x p
adds Minus x p = minus x p

abbrev pub added : Sign → Polynomial → Polynomial → Polynomial
added Plus p q = sum_map p q
added Minus p q = difference_map p q
