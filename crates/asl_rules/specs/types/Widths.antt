-- Width expressions: integer literals, names of constants, global `let`s, parameters, integer formals, `let`s and loop indices, `+`, `-`, `*`, unary `-`, and
-- `DIV` by an integer above 0 that is written. Each is a polynomial over a denominator, within the limits. Where a constraint's end names no atom it is a
-- 128-bit integer.
use Rattle.std.specs.Prelude.{ℕ, ◌+◌, ◌*◌, ◌/◌, ℤ, pos, negsuc, suc, ◌+ℤ◌, ◌-ℤ◌, ◌*ℤ◌, Bool, false, ◌&&◌, List, length, Option, Some, None, Result, Ok, nat_le}
use Rattle.asl_syn.specs.declared.token.Span.{Span}
use Rattle.asl_syn.specs.declared.code.Fault.{Fault}
use Rattle.asl_syn.specs.declared.code.StaticCode.TheVariants.{T02, T05, T19, T20}
use Rattle.asl_num.specs.Exact.{floor_div}
use Rattle.asl_poly.specs.Terms.{Polynomial}
use Rattle.asl_poly.specs.WidthLimits.{heaviest, most_atoms, finest}
use Rattle.asl_poly.specs.Denominators.{least_common_multiple}
use Rattle.asl_poly.specs.Poly.{constant_map, sum_map, difference_map, product_map, quotient_map, constant_value, weight_over, with_atoms_of, is_multiple, may_divide}
use Rattle.asl_cons.specs.Arithmetic.{fits, sum_fits, product_fits, quotient_fits}
use Rattle.asl_rules.specs.Faults.{◌>>◌, need, fault, found_or}
use Rattle.asl_rules.specs.declared.joining.Combination.{Combination}
use Rattle.asl_rules.specs.declared.joining.Combination.TheVariants.{Sum, Difference, Product}
use Rattle.asl_rules.specs.types.Types.{Ty, is_integer, size, depth}
use Rattle.asl_rules.specs.values.Values.{Value, int}
use Rattle.asl_rules.specs.declarations.Scopes.{Counted, Storage, Standing, Stored, Label, known_value}

-- the absolute value of a number
abbrev pub weight_of : ℤ → ℕ
weight_of (pos n) = n
weight_of (negsuc n) = suc n

-- ---- widths

-- a number within the limit, else T20
abbrev pub width_of_number : Span → ℤ → Result Polynomial Fault
width_of_number span z = need (nat_le (weight_of z) heaviest) T20 span >> Ok (constant_map z)

-- a value that is known; T19 where it isn't
abbrev pub width_of_known : Span → Option Value → Result Polynomial Fault
width_of_known span (Some (int z)) = width_of_number span z
width_of_known span o = fault T19 span

abbrev pub width_of_counted : Span → Option Counted → Option Value → Result Polynomial Fault
width_of_counted span None known = width_of_known span known
width_of_counted span (Some c) known = Ok c.poly

abbrev pub width_of_storage : Span → Storage → Result Polynomial Fault
width_of_storage span s = need (is_integer s.ty) T05 span >> width_of_counted span s.counted (known_value s)

abbrev pub width_of_standing : Span → Option Standing → Result Polynomial Fault
width_of_standing span (Some (Stored s)) = width_of_storage span s
width_of_standing span (Some (Label T x)) = fault T05 span
width_of_standing span o = fault T02 span

-- the weights, the degrees and the atoms of the parts count, before terms of different parts cancel
abbrev pub width_sum : Span → Polynomial → Polynomial → Result Polynomial Fault
width_sum span p q = need (sum_fits p q) T20 span >> Ok (sum_map p q)

abbrev pub width_difference : Span → Polynomial → Polynomial → Result Polynomial Fault
width_difference span p q = need (sum_fits p q) T20 span >> Ok (difference_map p q)

abbrev pub width_product : Span → Polynomial → Polynomial → Result Polynomial Fault
width_product span p q = need (product_fits p q) T20 span >> Ok (product_map p q)

abbrev pub width_combined : Span → Combination → Polynomial → Polynomial → Result Polynomial Fault
width_combined span Sum p q = width_sum span p q
width_combined span Difference p q = width_difference span p q
width_combined span Product p q = width_product span p q

-- `p DIV k`: k divides p where it has no atom (T19), and the denominator, before lowest terms, is within the limit (T20)
abbrev pub width_divided : Span → Polynomial → ℕ → Result Polynomial Fault
width_divided span p k = need (may_divide k p) T19 span >> need (quotient_fits p k) T20 span >> Ok (quotient_map p k)

-- ---- numbers

-- a 128-bit integer, else T20
abbrev pub held : Span → ℤ → Result ℤ Fault
held span z = need (fits z) T20 span >> Ok z

abbrev pub number_of_known : Span → Option Value → Result ℤ Fault
number_of_known span (Some (int z)) = Ok z
number_of_known span o = fault T19 span

abbrev pub number_of_counted : Span → Option Counted → Option Value → Result ℤ Fault
number_of_counted span None known = number_of_known span known
number_of_counted span (Some c) known = found_or (constant_value c.poly) T19 span

abbrev pub number_of_storage : Span → Storage → Result ℤ Fault
number_of_storage span s = need (is_integer s.ty) T05 span >> number_of_counted span s.counted (known_value s)

abbrev pub number_of_standing : Span → Option Standing → Result ℤ Fault
number_of_standing span (Some (Stored s)) = number_of_storage span s
number_of_standing span (Some (Label T x)) = fault T05 span
number_of_standing span o = fault T02 span

abbrev pub number_combined : Span → Combination → ℤ → ℤ → Result ℤ Fault
number_combined span Sum a b = held span (a +ℤ b)
number_combined span Difference a b = held span (a -ℤ b)
number_combined span Product a b = held span (a *ℤ b)

-- a multiple of k divided by k
abbrev pub exact_quotient : ℤ → ℕ → ℤ
exact_quotient a k = floor_div a k

-- k divides the number (T19)
abbrev pub number_divided : Span → ℤ → ℕ → Result ℤ Fault
number_divided span a k = need (is_multiple k (Some a)) T19 span >> Ok (exact_quotient a k)

-- whether a name is an atom, or a `let` that stands for a text with one
abbrev pub counted_has_atom : Option Counted → Bool
counted_has_atom None = false
counted_has_atom (Some c) = c.has_atom

abbrev pub storage_has_atom : Option Storage → Bool
storage_has_atom None = false
storage_has_atom (Some s) = counted_has_atom s.counted

-- ---- sums of many widths: all parts count together, over one denominator

-- the sum, the weight of all parts over the denominator, which is the least common multiple of theirs, and their atoms
pub record Total : Type 0 where
  pub sum : Polynomial
  pub weight : ℕ
  pub denominator : ℕ
  pub atoms : List ℕ

-- the total with one more part, with which the sum is s
abbrev pub grown : ℕ → Total → Polynomial → Polynomial → Total
grown n x p s = record { sum = s; weight = x.weight * (n / x.denominator) + weight_over n p; denominator = n; atoms = with_atoms_of x.atoms p }

abbrev pub with_part : Total → Polynomial → Polynomial → Total
with_part x p s = grown (least_common_multiple x.denominator p.denominator) x p s

abbrev pub plus : Total → Polynomial → Total
plus x p = with_part x p (sum_map x.sum p)

abbrev pub minus : Total → Polynomial → Total
minus x p = with_part x p (difference_map x.sum p)

abbrev pub plus_number : Total → ℕ → Total
plus_number x n = record x { sum = sum_map x.sum (constant_map (pos n)); weight = x.weight + n * x.denominator }

-- the sum within the limits, else T20
abbrev pub totalled : Span → Total → Result Polynomial Fault
totalled span x = need (nat_le x.weight heaviest && (nat_le (length x.atoms) most_atoms && nat_le x.denominator finest)) T20 span >> Ok x.sum

-- ---- limits of types

-- the largest size and depth of a type, and the greatest length of an array
unfoldable pub largest : ℕ
largest = 65536

unfoldable pub deepest : ℕ
deepest = 100

-- a type within the limits, else T20
abbrev pub bounded : Span → Ty → Result Ty Fault
bounded span T = need (nat_le (size T) largest && nat_le (depth T) deepest) T20 span >> Ok T

-- a length from 0, else T20
abbrev pub length_of : Span → ℤ → Result ℕ Fault
length_of span (pos n) = need (nat_le n largest) T20 span >> Ok n
length_of span (negsuc n) = fault T20 span
