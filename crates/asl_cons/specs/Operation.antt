-- The operations on ends, by the code's names for them.
use Rattle.std.specs.Prelude.{ℤ, ◌+ℤ◌, ◌-ℤ◌, ◌*ℤ◌, Option}
use Rattle.asl_poly.specs.Terms.{Polynomial}
use Rattle.asl_poly.specs.Poly.{ConstantFits, SumFits, ProductFits, sum_map, difference_map, product_map}
use Rattle.asl_cons.specs.declared.End.{End}
use Rattle.asl_cons.specs.declared.End.TheVariants.{Int, Width}
use Rattle.asl_cons.specs.declared.ends.Operation.{Operation}
use Rattle.asl_cons.specs.declared.ends.Operation.TheVariants.{Sum, Difference, Product}
use Rattle.asl_cons.specs.Constraint.{poly_of}
use Rattle.asl_cons.specs.Arithmetic.{sum_fits, product_fits, widths, sum_end, difference_end, product_end}

abbrev pub number_by : Operation → ℤ → ℤ → ℤ
number_by Sum x y = x +ℤ y
number_by Difference x y = x -ℤ y
number_by Product x y = x *ℤ y

abbrev pub PolyFits : Operation → Polynomial → Polynomial → Type 0
PolyFits Sum p q = SumFits p q
PolyFits Difference p q = SumFits p q
PolyFits Product p q = ProductFits p q

abbrev pub poly_by : Operation → Polynomial → Polynomial → Polynomial
poly_by Sum p q = sum_map p q
poly_by Difference p q = difference_map p q
poly_by Product p q = product_map p q

abbrev pub LightEnd : End → Type 0
LightEnd (Int z) = ConstantFits z
LightEnd (Width p) = Unit {0}

pub record Fits (op : Operation) (e f : End) : Type 0 where
  pub left : LightEnd e
  pub right : LightEnd f
  pub both : PolyFits op (poly_of e) (poly_of f)

abbrev pub widths_by : Operation → End → End → Option End
widths_by Sum e f = widths sum_fits sum_map e f
widths_by Difference e f = widths sum_fits difference_map e f
widths_by Product e f = widths product_fits product_map e f

abbrev pub end_by : Operation → End → End → Option End
end_by Sum e f = sum_end e f
end_by Difference e f = difference_end e f
end_by Product e f = product_end e f
