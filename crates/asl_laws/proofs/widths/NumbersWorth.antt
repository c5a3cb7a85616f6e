-- The number of a constraint's end that names no atom is the expression's, wherever the integers of the names agree with the scope.
use Rattle.std.proofs.Common.{◌≡◌, ℕ, ◌*◌, ◌%◌, ◌<◌, ◌==◌, true, ℤ, pos, List, Option, Some, None, Ok, refl, sym, ap, ap₂, subst, ◌∙◌, arith}
use Rattle.std.specs.Prelude.{◌+ℤ◌, ◌-ℤ◌, ◌*ℤ◌, unsigned_abs}
use Rattle.std.proofs.lemmas.Bool.Decides.{nat_tests}
use Rattle.asl_syn.specs.declared.token.Span.{Span}
use Rattle.asl_syn.specs.declared.code.StaticCode.TheVariants.{T02, T05, T19, T20}
use Rattle.asl_syn.specs.declared.tree.Expr.{Expr}
use Rattle.asl_syn.specs.declared.tree.Bitfield.TheOpen as ex
use Rattle.asl_syn.specs.declared.tree.UnaryOperator.TheVariants as unary
use Rattle.asl_syn.specs.declared.tree.BinaryOperator.TheVariants as binary
use Rattle.asl_num.specs.Exact.{floor_div}
use Rattle.asl_poly.specs.Terms.{value}
use Rattle.asl_poly.specs.Fractions.{Fraction, SameFraction, whole}
use Rattle.asl_poly.specs.Poly.{constant_value, is_multiple}
use Rattle.asl_poly.proofs.Ring.{mul-one}
use Rattle.asl_cons.specs.Arithmetic.{fits}
use Rattle.asl_cons.proofs.Results.{constant_is}
use Rattle.asl_rules.specs.declared.joining.Combination.{Combination}
use Rattle.asl_rules.specs.declared.joining.Combination.TheVariants.{Sum, Difference, Product}
use Rattle.asl_rules.specs.Faults.{need, fault_of}
use Rattle.asl_rules.specs.Tests.{Tests}
use Rattle.asl_rules.specs.types.Types.{is_integer}
use Rattle.asl_rules.specs.values.Values.{Value, int}
use Rattle.asl_rules.specs.declarations.Scopes.{Counted, Scope, Storage, Standing, Stored, Subprogram, TypeName, Label, standing_of, storage_of, storage_in, known_value}
use Rattle.asl_rules.specs.types.Widths.{held, exact_quotient, number_of_known, number_of_counted, number_of_storage, number_of_standing, number_combined, number_divided}
use Rattle.asl_rules.specs.expressions.Typing.{Number}
use Rattle.asl_rules.specs.expressions.Exprs.{found}
use Rattle.asl_rules.specs.types.Arithmetic.{of_two}
use Rattle.asl_rules.specs.types.Numbers.{less, parted, fractions, fraction, IsWhole}
use Rattle.asl_rules.specs.private.Worth.{Integers, counted_for, stored_for, fraction_for, standing_for, by_place, Obeys}
use Rattle.asl_rules.proofs.values.Rounded.{exact_is}
use Rattle.asl_rules.proofs.widths.Ratios.{Proper, same_trans, plus_same, less_same, times_same, parted_same, some_both, some_parted}
use Rattle.asl_rules.proofs.widths.WidthsHeld.{above_0}
use Rattle.asl_rules.proofs.widths.WidthsWorth.{some_of_two}
use Rattle.asl_rules.proofs.widths.WidthForms.{NumberForms, by_number_forms}
use Rattle.asl_rules.proofs.widths.WorthForms.{worth_roll, worth_of_one, worth_of_operator, worth_of_two, worth_of_quotient, written_divisor}
use Rattle.asl_rules.proofs.basics.Inversions.{ok_ok, err_ok, then_ok, need_ok, found_ok}
use Rattle.asl_rules.proofs.widths.Known.{integer_of_number}
use Rattle.asl_laws.specs.WidthWorth.{HasWhole}

-- two integers combined
abbrev pub number_by : Combination → ℤ → ℤ → ℤ
number_by Sum x y = x +ℤ y
number_by Difference x y = x -ℤ y
number_by Product x y = x *ℤ y

-- ---- operations

pub held_is : (span : Span) (y z : ℤ) → held span y ≡ Ok z → y ≡ z
held_is span y z h = let u = then_ok (need (fits y) T20 span) (Ok y) z h in ok_ok y z u.then

whole_less : (x y : ℤ) → SameFraction (less (whole x) (whole y)) (whole (x -ℤ y))
whole_less x y = rw (mul-one x, mul-one y) refl

pub whole_of_two : (o : Combination) (x y : ℤ) → SameFraction (of_two fractions o (whole x) (whole y)) (whole (number_by o x y))
whole_of_two Sum x y = rw (mul-one x, mul-one y) refl
whole_of_two Difference x y = whole_less x y
whole_of_two Product x y = refl

same_of_two : (o : Combination) (r s t u : Fraction) → SameFraction r t → SameFraction s u →
    SameFraction (of_two fractions o r s) (of_two fractions o t u)
same_of_two Sum r s t u e f = plus_same r s t u e f
same_of_two Difference r s t u e f = less_same r s t u e f
same_of_two Product r s t u e f = times_same r s t u e f

combined_number : (span : Span) (o : Combination) (x y z : ℤ) → number_combined span o x y ≡ Ok z → number_by o x y ≡ z
combined_number span Sum x y z h = held_is span (x +ℤ y) z h
combined_number span Difference x y z h = held_is span (x -ℤ y) z h
combined_number span Product x y z h = held_is span (x *ℤ y) z h

is_zero_nat : (n : ℕ) → (n == 0) ≡ true → n ≡ 0
is_zero_nat n h = grind (arith, nat_tests)

whole_parted : (span : Span) (y z : ℤ) (k : ℕ) → 0 < k → number_divided span y k ≡ Ok z → SameFraction (parted (whole y) k) (whole z)
whole_parted span y z k l h =
    let u = then_ok (need (is_multiple k (Some y)) T19 span) (Ok (exact_quotient y k)) z h in
    let e : y ≡ floor_div y k *ℤ pos k =
    exact_is y k l (is_zero_nat (unsigned_abs y % k) (need_ok (is_multiple k (Some y)) T19 span tt u.first)) in
    let one : 1 * k ≡ k = omega arith in
    mul-one y ∙ e ∙ ap₂ (λ w n. w *ℤ pos n) (ok_ok (exact_quotient y k) z u.then) (sym one)

-- ---- integers in the place of fractions

pub negated_whole : (span : Span) (r : Fraction) (y z : ℤ) → IsWhole y r → held span (pos 0 -ℤ y) ≡ Ok z →
    IsWhole z (less (whole (pos 0)) r)
negated_whole span r y z w h =
    subst (λ x. IsWhole x (less (whole (pos 0)) r)) (held_is span (pos 0 -ℤ y) z h)
    (same_trans (less (whole (pos 0)) r) (less (whole (pos 0)) (whole y)) (whole (pos 0 -ℤ y)) (omega arith)
    (less_same (whole (pos 0)) r (whole (pos 0)) (whole y) refl w) (whole_less (pos 0) y))

pub combined_whole : (span : Span) (o : Combination) (r s : Fraction) (x y z : ℤ) → IsWhole x r → IsWhole y s →
    number_combined span o x y ≡ Ok z →
    IsWhole z (of_two fractions o r s)
combined_whole span o r s x y z v w h =
    subst (λ u. IsWhole u (of_two fractions o r s)) (combined_number span o x y z h)
    (same_trans (of_two fractions o r s) (of_two fractions o (whole x) (whole y)) (whole (number_by o x y))
    (some_of_two o (whole x) (whole y) (omega arith) (omega arith))
    (same_of_two o r s (whole x) (whole y) v w) (whole_of_two o x y))

pub divided_whole : (span : Span) (r : Fraction) (y z : ℤ) (k : ℕ) → 0 < k → IsWhole y r → number_divided span y k ≡ Ok z →
    IsWhole z (parted r k)
divided_whole span r y z k l w h =
    same_trans (parted r k) (parted (whole y) k) (whole z) (some_parted (whole y) k (omega arith) l)
    (parted_same r (whole y) k w) (whole_parted span y z k l h)

-- ---- names

pub known_is : (span : Span) (o : Option Value) (x z : ℤ) → ((y : ℤ) → o ≡ Some (int y) → x ≡ y) → number_of_known span o ≡ Ok z → x ≡ z
known_is span o x z k h = k z (integer_of_number span o z h)

whole_name : (x z : ℤ) → x ≡ z → IsWhole z (whole x)
whole_name x z e = ap (λ y. y *ℤ pos 1) e

counted_whole : (b : ℕ → ℤ) (span : Span) (o : Option Counted) (v : Option Value) (x z : ℤ) → ((y : ℤ) → v ≡ Some (int y) → x ≡ y) →
    number_of_counted span o v ≡ Ok z →
    Proper (counted_for b x o) × IsWhole z (counted_for b x o)
counted_whole b span None v x z k h = (omega arith, whole_name x z (known_is span v x z k h))
counted_whole b span (Some c) v x z k h =
    let w = constant_is b c.poly z (found_ok (constant_value c.poly) T19 span z h) in
    (subst (λ n. 0 < n) (sym w.1) (omega arith), mul-one (value b c.poly.terms) ∙ w.0 ∙ sym (ap (λ n. z *ℤ pos n) w.1 ∙ mul-one z))

module _ (G : Scope) (a : Integers) (agrees : Obeys G.names a) where
  abbrev Wholly : List ℕ → ℤ → Type 0
  Wholly name z = Proper (fraction_for G.names a name) × IsWhole z (fraction_for G.names a name)

  stored_is : (span : Span) (name : List ℕ) (s : Storage) (z : ℤ) → storage_of name G.names ≡ Some s → number_of_storage span s ≡ Ok z →
      Wholly name z
  stored_is span name s z e h =
      let u = then_ok (need (is_integer s.ty) T05 span) (number_of_counted span s.counted (known_value s)) z h in
      subst (λ o. Proper (stored_for (by_place G.names a) (a name) o) × IsWhole z (stored_for (by_place G.names a) (a name) o)) (sym e)
      (counted_whole (by_place G.names a) span s.counted (known_value s) (a name) z (λ y k. agrees.known name s y e k) u.then)

  name_is : (span : Span) (name : List ℕ) (o : Option Standing) (z : ℤ) → standing_of name G.names ≡ o → number_of_standing span o ≡ Ok z →
      Wholly name z
  name_is span name (Some (Stored s)) z e h = stored_is span name s z (ap storage_in e) h
  name_is span name (Some (Label T x)) z e h = err_ok (fault_of T05 span) z h
  name_is span name (Some Subprogram) z e h = err_ok (fault_of T02 span) z h
  name_is span name (Some (TypeName T)) z e h = err_ok (fault_of T02 span) z h
  name_is span name None z e h = err_ok (fault_of T02 span) z h

-- the fraction of an expression, which is this integer
record Wholeness (e : Expr) (G : Scope) (a : Integers) (z : ℤ) : Type 0 where
  number : Fraction
  proper : Proper number
  is : fraction e (standing_for G.names a) ≡ Some number
  same : IsWhole z number

module _ (t : Tests) where
  Worthy : Expr → Scope → ℤ → Type 0
  Worthy e G z = (a : Integers) → Obeys G.names a → Wholeness e G a z

  by_forms : NumberForms Worthy
  unfolding Worthy
  by_forms = record {
    whole = λ span n G a g. record {
      number = whole (pos n);
      proper = omega arith;
      is = worth_roll fractions (ex.Int span n) (standing_for G.names a);
      same = refl;
    };
    name = λ span name G z h a g.
        let w = name_is G a g span name (standing_of name G.names) z refl h in
        record {
          number = fraction_for G.names a name;
          proper = w.0;
          is = worth_roll fractions (ex.Name span name) (standing_for G.names a);
          same = w.1;
        };
    negated = λ span e G y z v h a g.
        let w = v a g in
        record {
          number = less (whole (pos 0)) w.number;
          proper = some_both (whole (pos 0)) w.number (omega arith) w.proper;
          is =
              worth_roll fractions (ex.Unary span unary.Negate e) (standing_for G.names a) ∙ worth_of_one fractions
              (fraction e (standing_for G.names a)) w.number w.is;
          same = negated_whole span w.number y z w.same h;
        };
    combined = λ span o e f G x y z v w h a g.
        let r = v a g in
        let s = w a g in
        record {
          number = of_two fractions o r.number s.number;
          proper = some_of_two o r.number s.number r.proper s.proper;
          is = worth_of_operator fractions o span e f (standing_for G.names a)
              ∙ worth_of_two fractions o (fraction e (standing_for G.names a)) (fraction f (standing_for G.names a))
              r.number s.number r.is s.is;
          same = combined_whole span o r.number s.number x y z r.same s.same h;
        };
    divided = λ span e f k G y z v i h a g.
        let r = v a g in
        let l = above_0 f k i in
        record {
          number = parted r.number k;
          proper = some_parted r.number k r.proper l;
          is = worth_roll fractions (ex.Binary span binary.DivideExact e f) (standing_for G.names a)
              ∙ worth_of_quotient fractions _ (fraction e (standing_for G.names a)) k r.number (written_divisor fractions f k i) r.is;
          same = divided_whole span r.number y z k l r.same h;
        };
  }

  pub number_is_worth : (e : Expr) (G : Scope) (a : Integers) → Obeys G.names a → (w : Number) → (found t e).number G ≡ Ok w →
      HasWhole e G.names a w.number
  unfolding Worthy
  number_is_worth e G a g w h = let x = by_number_forms t Worthy by_forms e G w h a g in (x.number, x.is, x.same)
