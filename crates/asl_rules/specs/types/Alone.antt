-- Width expressions as polynomials over what their names stand for, without limits; and whether one is an atom alone.
use Rattle.std.specs.Prelude.{ℕ, pos, Bool, false, Option, Some, None}
use Rattle.asl_syn.specs.declared.tree.Expr.{Expr}
use Rattle.asl_poly.specs.Terms.{Polynomial}
use Rattle.asl_poly.specs.Poly.{constant_map, sum_map, difference_map, product_map, quotient_map, is_atom}
use Rattle.asl_rules.specs.types.Arithmetic.{Arithmetic, Named, Worth, worth}

-- which polynomials names stand for, where they stand for one
abbrev pub Polynomials : Type 0
Polynomials = Named Polynomial

abbrev pub PolynomialOf : Type 0
PolynomialOf = Worth Polynomial

abbrev pub polynomials : Arithmetic Polynomial
polynomials = record { literal = λ n. constant_map (pos n); plus = sum_map; minus = difference_map; times = product_map; over = quotient_map }

abbrev pub polynomial : Expr → PolynomialOf
polynomial = worth polynomials

-- there is a polynomial, and it is this atom alone
abbrev pub is_alone : ℕ → Option Polynomial → Bool
is_alone n None = false
is_alone n (Some p) = is_atom n p
