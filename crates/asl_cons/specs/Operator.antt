-- The operators on parts, by the code's names for them.
use Rattle.std.specs.Prelude.{Bool, true, false, List, ◌++◌, Option, Some, None}
use Rattle.asl_cons.specs.declared.Part.{Part}
use Rattle.asl_cons.specs.declared.arithmetic.Operator.{Operator}
use Rattle.asl_cons.specs.declared.arithmetic.Operator.TheVariants.{Add, Sub, Mul, DivFloor, Shl, Shr}
use Rattle.asl_cons.specs.Arithmetic.{sum_part, difference_part, product_part, quotient_part, shifted_up_part, shifted_down_part}

abbrev pub part_by : Operator → Part → Part → Option Part
part_by Add p q = sum_part p q
part_by Sub p q = difference_part p q
part_by Mul p q = product_part p q
part_by DivFloor p q = quotient_part p q
part_by Shl p q = shifted_up_part p q
part_by Shr p q = shifted_down_part p q

-- the parts behind those made so far
abbrev pub onto : List Part → Option (List Part) → Option (List Part)
onto made None = None
onto made (Some ps) = Some (made ++ ps)

-- what a loop leaves: the parts, or none where it stopped
abbrev pub left_over : Bool → List Part → Option (List Part)
left_over true ps = Some ps
left_over false ps = None
