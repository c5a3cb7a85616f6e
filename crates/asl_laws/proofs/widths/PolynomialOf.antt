-- The polynomial of a width expression by the static rule is the one that the expression has over what its names stand for, so that omitted parameters
-- are found alike on both sides.
use Rattle.std.proofs.Common.{◌≡◌, ℕ, List, ℤ, pos, Option, Some, None, sym, ap, ◌∙◌}
use Rattle.asl_syn.specs.declared.token.Span.{Span}
use Rattle.asl_syn.specs.declared.tree.Expr.{Expr}
use Rattle.asl_syn.specs.declared.tree.Bitfield.TheOpen as ex
use Rattle.asl_syn.specs.declared.tree.UnaryOperator.TheVariants as unary
use Rattle.asl_syn.specs.declared.tree.BinaryOperator.TheVariants as binary
use Rattle.asl_syn.specs.declared.code.StaticCode.TheVariants.{T02, T05, T19, T20}
use Rattle.std.specs.Prelude.{nat_le, Ok}
use Rattle.asl_poly.specs.Terms.{Polynomial}
use Rattle.asl_poly.specs.Poly.{constant_map, sum_map, difference_map, product_map, quotient_map, may_divide}
use Rattle.asl_cons.specs.Arithmetic.{sum_fits, product_fits, quotient_fits}
use Rattle.asl_rules.specs.declared.joining.Combination.{Combination}
use Rattle.asl_rules.specs.declared.joining.Combination.TheVariants.{Sum, Difference, Product}
use Rattle.asl_rules.specs.Faults.{◌>>◌, need, fault_of}
use Rattle.asl_rules.specs.Tests.{Tests}
use Rattle.asl_rules.specs.types.Types.{is_integer}
use Rattle.asl_rules.specs.values.Values.{Value, int}
use Rattle.asl_rules.specs.declarations.Scopes.{Counted, Scope, Standing, Stored, Subprogram, TypeName, Label, standing_of, known_value}
use Rattle.asl_poly.specs.WidthLimits.{heaviest}
use Rattle.asl_rules.specs.types.Widths.{weight_of, width_of_number, width_of_known, width_of_counted, width_of_standing, width_difference, width_combined, width_divided}
use Rattle.asl_rules.specs.expressions.Typing.{Width}
use Rattle.asl_rules.specs.expressions.Exprs.{width}
use Rattle.asl_rules.specs.types.Arithmetic.{of_two}
use Rattle.asl_rules.specs.types.Alone.{Polynomials, polynomials, polynomial}
use Rattle.asl_rules.proofs.widths.WorthForms.{worth_roll, worth_of_one, worth_of_operator, worth_of_two, worth_of_quotient, written_divisor}
use Rattle.asl_rules.proofs.basics.Inversions.{ok_ok, err_ok, then_ok}
use Rattle.asl_rules.proofs.widths.WidthForms.{WidthForms, by_width_forms}
use Rattle.asl_rules.proofs.widths.Known.{integer_of_width}

-- what a name stands for in widths
abbrev pub of_known : Option Value → Option Polynomial
of_known (Some (int z)) = Some (constant_map z)
of_known o = None

abbrev pub of_counted : Option Counted → Option Value → Option Polynomial
of_counted None v = of_known v
of_counted (Some c) v = Some c.poly

abbrev pub of_standing : Option Standing → Option Polynomial
of_standing (Some (Stored s)) = of_counted s.counted (known_value s)
of_standing o = None

abbrev pub in_scope : Scope → Polynomials
in_scope G name = of_standing (standing_of name G.names)

known_is : (span : Span) (o : Option Value) (p : Polynomial) → width_of_known span o ≡ Ok p → of_known o ≡ Some p
known_is span o p h =
    let w = integer_of_width span o p h in
    let u = then_ok (need (nat_le (weight_of w.number) heaviest) T20 span) (Ok (constant_map w.number)) p w.made in
    ap of_known w.is ∙ ap Some (ok_ok (constant_map w.number) p u.then)

counted_is : (span : Span) (o : Option Counted) (v : Option Value) (p : Polynomial) → width_of_counted span o v ≡ Ok p → of_counted o v ≡ Some p
counted_is span None v p h = known_is span v p h
counted_is span (Some c) v p h = ap Some (ok_ok c.poly p h)

standing_is : (span : Span) (o : Option Standing) (p : Polynomial) → width_of_standing span o ≡ Ok p → of_standing o ≡ Some p
standing_is span (Some (Stored s)) p h = let u = then_ok (need (is_integer s.ty) T05 span) (width_of_counted span s.counted (known_value s)) p h in counted_is span s.counted (known_value s) p u.then
standing_is span (Some (Label T x)) p h = err_ok (fault_of T05 span) p h
standing_is span (Some Subprogram) p h = err_ok (fault_of T02 span) p h
standing_is span (Some (TypeName T)) p h = err_ok (fault_of T02 span) p h
standing_is span None p h = err_ok (fault_of T02 span) p h

difference_is : (span : Span) (p q r : Polynomial) → width_difference span p q ≡ Ok r → r ≡ difference_map p q
difference_is span p q r h = let u = then_ok (need (sum_fits p q) T20 span) (Ok (difference_map p q)) r h in sym (ok_ok (difference_map p q) r u.then)

combined_is : (span : Span) (o : Combination) (p q r : Polynomial) → width_combined span o p q ≡ Ok r → r ≡ of_two polynomials o p q
combined_is span Sum p q r h = let u = then_ok (need (sum_fits p q) T20 span) (Ok (sum_map p q)) r h in sym (ok_ok (sum_map p q) r u.then)
combined_is span Difference p q r h = difference_is span p q r h
combined_is span Product p q r h =
    let u = then_ok (need (product_fits p q) T20 span) (Ok (product_map p q)) r h in sym (ok_ok (product_map p q) r u.then)

divided_is : (span : Span) (p r : Polynomial) (k : ℕ) → width_divided span p k ≡ Ok r → r ≡ quotient_map p k
divided_is span p r k h =
    let u = then_ok (need (may_divide k p) T19 span) (need (quotient_fits p k) T20 span >> Ok (quotient_map p k)) r h in
    let v = then_ok (need (quotient_fits p k) T20 span) (Ok (quotient_map p k)) r u.then in
    sym (ok_ok (quotient_map p k) r v.then)

number_is : (span : Span) (z : ℤ) (p : Polynomial) → width_of_number span z ≡ Ok p → p ≡ constant_map z
number_is span z p h = let u = then_ok (need (nat_le (weight_of z) heaviest) T20 span) (Ok (constant_map z)) p h in sym (ok_ok (constant_map z) p u.then)

-- names stand for the polynomials that they are as widths in a scope
abbrev pub AgreesOn : Polynomials → Scope → Type 0
AgreesOn f G = (span : Span) (name : List ℕ) (p : Polynomial) → width_of_standing span (standing_of name G.names) ≡ Ok p → f name ≡ Some p

module _ (t : Tests) (f : Polynomials) where
  Told : Expr → Scope → Polynomial → Type 0
  Told e G p = AgreesOn f G → polynomial e f ≡ Some p

  by_forms : WidthForms Told
  unfolding Told
  by_forms = record {
    whole = λ span n G p h g. worth_roll polynomials (ex.Int span n) f ∙ ap Some (sym (number_is span (pos n) p h));
    name = λ span name G p h g. worth_roll polynomials (ex.Name span name) f ∙ g span name p h;
    negated =
        λ span e G p q w h g. worth_roll polynomials (ex.Unary span unary.Negate e) f ∙ worth_of_one polynomials (polynomial e f) p (w g)
        ∙ ap Some (sym (difference_is span (constant_map (pos 0)) p q h));
    combined =
        λ span o e k G p q r v w h g. worth_of_operator polynomials o span e k f ∙ worth_of_two polynomials o (polynomial e f)
        (polynomial k f) p q (v g) (w g) ∙ ap Some (sym (combined_is span o p q r h));
    divided = λ span e k n G p q v i h g. worth_roll polynomials (ex.Binary span binary.DivideExact e k) f
        ∙ worth_of_quotient polynomials _ (polynomial e f) n p (written_divisor polynomials k n i) (v g) ∙ ap Some
        (sym (divided_is span p q n h));
  }

  pub polynomial_is : (e : Expr) (G : Scope) (w : Width) → AgreesOn f G → width t e G ≡ Ok w → polynomial e f ≡ Some w.poly
  unfolding Told
  polynomial_is e G w g h = by_width_forms t Told by_forms e G w h g

pub width_is_polynomial : (t : Tests) (e : Expr) (G : Scope) (w : Width) → width t e G ≡ Ok w → polynomial e (in_scope G) ≡ Some w.poly
width_is_polynomial t e G w h = polynomial_is t (in_scope G) e G w (λ span name p k. standing_is span (standing_of name G.names) p k) h
