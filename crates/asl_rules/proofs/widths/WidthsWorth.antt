-- The polynomial of a width expression has the expression's fraction, wherever the integers of the names agree with the scope. So two
-- widths that are the same have one fraction there.
use Rattle.std.proofs.Common.{◌≡◌, ℕ, ℤ, Bool, pos, List, Option, Some, None, Ok, ◌*◌, ◌<◌, refl, sym, ap, ◌∙◌, subst, arith}
use Rattle.std.specs.Prelude.{nat_le}
use Rattle.asl_syn.specs.declared.token.Span.{Span}
use Rattle.asl_syn.specs.declared.code.StaticCode.TheVariants.{T02, T05, T19, T20}
use Rattle.asl_syn.specs.declared.tree.Expr.{Expr}
use Rattle.asl_syn.specs.declared.tree.Bitfield.TheOpen as ex
use Rattle.asl_syn.specs.declared.tree.UnaryOperator.TheVariants as unary
use Rattle.asl_syn.specs.declared.tree.BinaryOperator.TheVariants as binary
use Rattle.asl_poly.specs.Terms.{Polynomial}
use Rattle.asl_poly.specs.Fractions.{Fraction, SameFraction, whole, plus, times, fraction_at}
use Rattle.asl_poly.specs.Poly.{IsPolynomial, constant_map, sum_map, difference_map, product_map, quotient_map, may_divide, Same}
use Rattle.asl_poly.specs.WidthLimits.{heaviest}
use Rattle.asl_cons.specs.Arithmetic.{sum_fits, product_fits, quotient_fits}
use Rattle.asl_rules.specs.declared.joining.Combination.{Combination}
use Rattle.asl_rules.specs.declared.joining.Combination.TheVariants.{Sum, Difference, Product}
use Rattle.asl_rules.specs.Faults.{◌>>◌, need, fault_of}
use Rattle.asl_rules.specs.Tests.{Tests}
use Rattle.asl_rules.specs.types.Types.{is_integer}
use Rattle.asl_rules.specs.values.Values.{Value, int}
use Rattle.asl_rules.specs.declarations.Scopes.{Counted, Scope, Storage, Standing, Stored, Subprogram, TypeName, Label, standing_of, storage_of, storage_in, known_value}
use Rattle.asl_rules.specs.types.Widths.{weight_of, width_of_number, width_of_known, width_of_counted, width_of_storage, width_of_standing, width_sum, width_difference, width_product, width_combined, width_divided}
use Rattle.asl_rules.specs.expressions.Typing.{Width}
use Rattle.asl_rules.specs.expressions.Exprs.{width}
use Rattle.asl_rules.specs.types.Arithmetic.{of_two}
use Rattle.asl_rules.specs.types.Numbers.{less, parted, fractions, fraction}
use Rattle.asl_rules.specs.private.Worth.{Integers, counted_for, stored_for, fraction_for, standing_for, by_place, AreSame, Obeys}
use Rattle.asl_rules.proofs.widths.WidthForms.{WidthForms, by_width_forms}
use Rattle.asl_rules.proofs.widths.WorthForms.{worth_roll, worth_of_one, worth_of_operator, worth_of_two, worth_of_quotient, written_divisor}
use Rattle.asl_rules.proofs.widths.WidthsHeld.{CountsHeld, name_held, number_held, difference_held, combined_held, divided_held, above_0, zero_held}
use Rattle.asl_rules.proofs.widths.Ratios.{Proper, same_trans, plus_same, less_same, times_same, parted_same, some_both, some_parted, constant_same, sum_same, difference_same, product_same, quotient_same}
use Rattle.asl_rules.proofs.basics.Inversions.{ok_ok, err_ok, then_ok}
use Rattle.asl_rules.proofs.widths.Known.{integer_of_width}

-- ---- the operations

-- the polynomial is this fraction at these integers
abbrev pub Is : (ℕ → ℤ) → Polynomial → Fraction → Type 0
Is a p r = SameFraction r (fraction_at a p)

pub number_is : (a : ℕ → ℤ) (span : Span) (z : ℤ) (p : Polynomial) → width_of_number span z ≡ Ok p → Is a p (whole z)
number_is a span z p h =
    let u = then_ok (need (nat_le (weight_of z) heaviest) T20 span) (Ok (constant_map z)) p h in
    subst (λ q. Is a q (whole z)) (ok_ok (constant_map z) p u.then) (sym (constant_same a z))

-- a polynomial's denominator is above 0
pub proper_at : (a : ℕ → ℤ) (p : Polynomial) → IsPolynomial p → Proper (fraction_at a p)
proper_at a p h = h.lowest.positive

-- what is made within the limits is worth what it is
limited_is : (a : ℕ → ℤ) (span : Span) (fits : Bool) (made r : Polynomial) (x : Fraction) → Is a made x →
    (need fits T20 span >> Ok made) ≡ Ok r → Is a r x
limited_is a span fits made r x is h =
    let u = then_ok (need fits T20 span) (Ok made) r h in subst (λ s. Is a s x) (ok_ok made r u.then) is

module _ (a : ℕ → ℤ) (span : Span) (p q r : Polynomial) (x y : Fraction) (i : IsPolynomial p) (j : IsPolynomial q) (e : Is a p x)
    (f : Is a q y) where
  both_at : 0 < p.denominator * q.denominator
  both_at = some_both (fraction_at a p) (fraction_at a q) i.lowest.positive j.lowest.positive

  pub sum_is : width_sum span p q ≡ Ok r → Is a r (plus x y)
  sum_is h =
      limited_is a span (sum_fits p q) (sum_map p q) r (plus x y)
      (same_trans (plus x y) (plus (fraction_at a p) (fraction_at a q)) (fraction_at a (sum_map p q)) both_at
      (plus_same x y (fraction_at a p) (fraction_at a q) e f) (sym (sum_same a p q i j))) h

  pub difference_is : width_difference span p q ≡ Ok r → Is a r (less x y)
  difference_is h =
      limited_is a span (sum_fits p q) (difference_map p q) r (less x y)
      (same_trans (less x y) (less (fraction_at a p) (fraction_at a q)) (fraction_at a (difference_map p q)) both_at
      (less_same x y (fraction_at a p) (fraction_at a q) e f) (sym (difference_same a p q i j))) h

  pub product_is : width_product span p q ≡ Ok r → Is a r (times x y)
  product_is h =
      limited_is a span (product_fits p q) (product_map p q) r (times x y)
      (same_trans (times x y) (times (fraction_at a p) (fraction_at a q)) (fraction_at a (product_map p q)) both_at
      (times_same x y (fraction_at a p) (fraction_at a q) e f) (sym (product_same a p q i j))) h

pub combined_is : (a : ℕ → ℤ) (span : Span) (o : Combination) (p q r : Polynomial) (x y : Fraction) → IsPolynomial p → IsPolynomial q →
    Is a p x → Is a q y →
    width_combined span o p q ≡ Ok r → Is a r (of_two fractions o x y)
combined_is a span Sum p q r x y i j e f h = sum_is a span p q r x y i j e f h
combined_is a span Difference p q r x y i j e f h = difference_is a span p q r x y i j e f h
combined_is a span Product p q r x y i j e f h = product_is a span p q r x y i j e f h

pub divided_is : (a : ℕ → ℤ) (span : Span) (p r : Polynomial) (k : ℕ) (x : Fraction) → IsPolynomial p → 0 < k → Is a p x →
    width_divided span p k ≡ Ok r → Is a r (parted x k)
divided_is a span p r k x i l e h =
    let u = then_ok (need (may_divide k p) T19 span) (need (quotient_fits p k) T20 span >> Ok (quotient_map p k)) r h in
    let v = then_ok (need (quotient_fits p k) T20 span) (Ok (quotient_map p k)) r u.then in
    subst (λ s. Is a s (parted x k)) (ok_ok (quotient_map p k) r v.then)
    (same_trans (parted x k) (parted (fraction_at a p) k) (fraction_at a (quotient_map p k)) (some_parted (fraction_at a p) k i.lowest.positive l)
    (parted_same x (fraction_at a p) k e) (sym (quotient_same a p k i l)))

pub some_of_two : (o : Combination) (x y : Fraction) → Proper x → Proper y → Proper (of_two fractions o x y)
some_of_two Sum x y h k = some_both x y h k
some_of_two Difference x y h k = some_both x y h k
some_of_two Product x y h k = some_both x y h k

-- ---- names

known_is : (a : ℕ → ℤ) (span : Span) (o : Option Value) (p : Polynomial) (z : ℤ) → ((y : ℤ) → o ≡ Some (int y) → z ≡ y) →
    width_of_known span o ≡ Ok p → Is a p (whole z)
known_is a span o p z k h =
    let w = integer_of_width span o p h in
    subst (λ x. Is a p (whole x)) (sym (k w.number w.is)) (number_is a span w.number p w.made)

pub counted_is : (a : ℕ → ℤ) (span : Span) (o : Option Counted) (v : Option Value) (p : Polynomial) (z : ℤ) →
    ((y : ℤ) → v ≡ Some (int y) → z ≡ y) →
    width_of_counted span o v ≡ Ok p → Is a p (counted_for a z o)
counted_is a span None v p z k h = known_is a span v p z k h
counted_is a span (Some x) v p z k h = subst (λ q. Is a q (fraction_at a x.poly)) (ok_ok x.poly p h) refl

module _ (G : Scope) (a : Integers) (agrees : Obeys G.names a) where
  abbrev At : ℕ → ℤ
  At = by_place G.names a

  stored_is : (span : Span) (name : List ℕ) (s : Storage) (p : Polynomial) → storage_of name G.names ≡ Some s →
      width_of_storage span s ≡ Ok p → Is At p (fraction_for G.names a name)
  stored_is span name s p e h =
      let u = then_ok (need (is_integer s.ty) T05 span) (width_of_counted span s.counted (known_value s)) p h in
      subst (λ o. Is At p (stored_for At (a name) o)) (sym e)
      (counted_is At span s.counted (known_value s) p (a name) (λ y k. agrees.known name s y e k) u.then)

  name_is : (span : Span) (name : List ℕ) (o : Option Standing) (p : Polynomial) → standing_of name G.names ≡ o →
      width_of_standing span o ≡ Ok p → Is At p (fraction_for G.names a name)
  name_is span name (Some (Stored s)) p e h = stored_is span name s p (ap storage_in e) h
  name_is span name (Some (Label T x)) p e h = err_ok (fault_of T05 span) p h
  name_is span name (Some Subprogram) p e h = err_ok (fault_of T02 span) p h
  name_is span name (Some (TypeName T)) p e h = err_ok (fault_of T02 span) p h
  name_is span name None p e h = err_ok (fault_of T02 span) p h

-- what a name stands for has a denominator above 0
counted_proper : (b : ℕ → ℤ) (z : ℤ) (o : Option Counted) → ((c : Counted) → o ≡ Some c → IsPolynomial c.poly) → Proper (counted_for b z o)
counted_proper b z None f = omega arith
counted_proper b z (Some c) f = (f c refl).lowest.positive

stored_proper : (b : ℕ → ℤ) (z : ℤ) (o : Option Storage) →
    ((s : Storage) (c : Counted) → o ≡ Some s → s.counted ≡ Some c → IsPolynomial c.poly) → Proper (stored_for b z o)
stored_proper b z None f = omega arith
stored_proper b z (Some s) f = counted_proper b z s.counted (λ c e. f s c refl e)

pub name_proper : (G : Scope) → CountsHeld G.names → (a : Integers) (name : List ℕ) → Proper (fraction_for G.names a name)
name_proper G w a name = stored_proper (by_place G.names a) (a name) (storage_of name G.names) (λ s c e k. w name s c e k)

-- ---- expressions

-- the fraction of an expression, which the polynomial is
pub record Worth (e : Expr) (G : Scope) (a : Integers) (p : Polynomial) : Type 0 where
  pub held : IsPolynomial p
  pub number : Fraction
  pub proper : Proper number
  pub is : fraction e (standing_for G.names a) ≡ Some number
  pub same : Is (by_place G.names a) p number

module _ (t : Tests) where
  Worthy : Expr → Scope → Polynomial → Type 0
  Worthy e G p = (a : Integers) → Obeys G.names a → CountsHeld G.names → Worth e G a p

  by_forms : WidthForms Worthy
  unfolding Worthy
  by_forms = record {
    whole = λ span n G p h a g w. record {
      held = number_held span (pos n) p h;
      number = whole (pos n);
      proper = omega arith;
      is = worth_roll fractions (ex.Int span n) (standing_for G.names a);
      same = number_is (by_place G.names a) span (pos n) p h;
    };
    name = λ span name G p h a g w. record {
      held = name_held G.names w span name (standing_of name G.names) p refl h;
      number = fraction_for G.names a name;
      proper = name_proper G w a name;
      is = worth_roll fractions (ex.Name span name) (standing_for G.names a);
      same = name_is G a g span name (standing_of name G.names) p refl h;
    };
    negated = λ span e G p q v h a g w.
        let u = v a g w in
        record {
          held = difference_held span (constant_map (pos 0)) p q zero_held u.held h;
          number = less (whole (pos 0)) u.number;
          proper = some_both (whole (pos 0)) u.number (omega arith) u.proper;
          is = worth_roll fractions (ex.Unary span unary.Negate e) (standing_for G.names a)
              ∙ worth_of_one fractions (fraction e (standing_for G.names a)) u.number u.is;
          same = difference_is (by_place G.names a) span (constant_map (pos 0)) p q (whole (pos 0)) u.number zero_held u.held
              (sym (constant_same (by_place G.names a) (pos 0))) u.same h;
        };
    combined = λ span o e f G p q r v w h a g k.
        let x = v a g k in
        let y = w a g k in
        record {
          held = combined_held span o p q r x.held y.held h;
          number = of_two fractions o x.number y.number;
          proper = some_of_two o x.number y.number x.proper y.proper;
          is = worth_of_operator fractions o span e f (standing_for G.names a)
              ∙ worth_of_two fractions o (fraction e (standing_for G.names a)) (fraction f (standing_for G.names a))
              x.number y.number x.is y.is;
          same = combined_is (by_place G.names a) span o p q r x.number y.number x.held y.held x.same y.same h;
        };
    divided = λ span e f k G p q v i h a g w.
        let x = v a g w in
        record {
          held = divided_held span p q k x.held (above_0 f k i) h;
          number = parted x.number k;
          proper = some_parted x.number k x.proper (above_0 f k i);
          is = worth_roll fractions (ex.Binary span binary.DivideExact e f) (standing_for G.names a)
              ∙ worth_of_quotient fractions _ (fraction e (standing_for G.names a)) k x.number (written_divisor fractions f k i) x.is;
          same = divided_is (by_place G.names a) span p q k x.number x.held (above_0 f k i) x.same h;
        };
  }

  -- the polynomial of a width expression has the expression's fraction
  pub width_is_worth : (e : Expr) (G : Scope) (a : Integers) → Obeys G.names a → CountsHeld G.names → (w : Width) → width t e G ≡ Ok w →
      Worth e G a w.poly
  unfolding Worthy
  width_is_worth e G a g k w h = by_width_forms t Worthy by_forms e G w h a g k

  -- widths that are the same have one fraction wherever the names agree with the scope
  pub same_is_worth_same : (e f : Expr) (G : Scope) (v w : Width) → CountsHeld G.names → width t e G ≡ Ok v → width t f G ≡ Ok w →
      Same v.poly w.poly →
      (a : Integers) → Obeys G.names a → AreSame (fraction e (standing_for G.names a)) (fraction f (standing_for G.names a))
  same_is_worth_same e f G v w c h k s a g =
      let x = width_is_worth e G a g c v h in
      let y = width_is_worth f G a g c w k in
      let b = by_place G.names a in
      let at : SameFraction (fraction_at b v.poly) y.number =
      same_trans (fraction_at b v.poly) (fraction_at b w.poly) y.number y.held.lowest.positive (s b) (sym y.same) in
      let one : SameFraction x.number y.number = same_trans x.number (fraction_at b v.poly) y.number x.held.lowest.positive x.same at in
      subst (λ z. AreSame z (fraction f (standing_for G.names a))) (sym x.is) (subst (λ z. AreSame (Some x.number) z) (sym y.is) one)
