-- Widths that are whole at some integers, and what operations make of them there: an integer again.
use Rattle.std.proofs.Common.{◌≡◌, ℕ, ◌*◌, ◌<◌, ℤ, pos, Some, Ok, sym, ap, ◌∙◌, refl, subst, arith}
use Rattle.std.specs.Prelude.{◌+ℤ◌, ◌-ℤ◌, ◌*ℤ◌}
use Rattle.std.proofs.lemmas.Int.{ints}
use Rattle.asl_syn.specs.declared.token.Span.{Span}
use Rattle.asl_num.specs.Exact.{floor_div, floor_mod}
use Rattle.asl_num.proofs.Laws.{floor_law}
use Rattle.asl_poly.specs.Terms.{Polynomial}
use Rattle.asl_poly.specs.Fractions.{Fraction, whole, plus, fraction_at}
use Rattle.asl_poly.specs.Poly.{IsPolynomial, HasWidth, constant_map, atom_map, sum_map, difference_map}
use Rattle.asl_poly.proofs.Ring.{mul-one}
use Rattle.asl_cons.proofs.Covering.{int_end}
use Rattle.asl_rules.specs.declared.joining.Combination.{Combination}
use Rattle.asl_rules.specs.declared.joining.Combination.TheVariants.{Sum, Difference}
use Rattle.asl_cons.specs.Arithmetic.{shown}
use Rattle.asl_rules.specs.types.Closed.{floor, ceiling, end_at}
use Rattle.asl_rules.specs.types.Arithmetic.{of_two}
use Rattle.asl_rules.specs.types.Numbers.{less, parted, fractions, IsWhole}
use Rattle.asl_rules.specs.types.Widths.{width_of_number, width_difference, width_combined, width_divided}
use Rattle.asl_rules.specs.values.Values.{Value, int}
use Rattle.asl_rules.specs.declarations.Scopes.{atom_at}
use Rattle.asl_rules.specs.private.Agreement.{CountsAs}
use Rattle.asl_rules.proofs.values.Constrained.{shown_is}
use Rattle.asl_rules.proofs.values.Rounded.{same_floor, same_ceiling, width_at_is}
use Rattle.asl_rules.proofs.widths.Ratios.{Proper, same_trans, plus_same, less_same, sum_same, difference_same, some_both, some_parted, width_whole, whole_width}
use Rattle.asl_rules.proofs.widths.WidthsHeld.{zero_held, atom_is_polynomial}
use Rattle.asl_rules.proofs.widths.WidthsWorth.{Is, number_is, combined_is, divided_is, some_of_two}
use Rattle.asl_laws.proofs.widths.NumbersWorth.{number_by, whole_of_two}
use Rattle.asl_laws.proofs.widths.SameByWorth.{value_atom}
use Rattle.asl_laws.proofs.expressions.Claims.{IsWidth}

-- a quotient without a remainder
pub quotient_whole : (y : ℤ) (k : ℕ) → 0 < k → floor_mod y k ≡ 0 → IsWhole (floor_div y k) (parted (whole y) k)
quotient_whole y k h e =
    let l = floor_law y k h in
    let none : pos (floor_mod y k) ≡ pos 0 = ap pos e in
    let exact : y ≡ floor_div y k *ℤ pos k = omega (arith, ints, l.0, none) in
    let one : k ≡ 1 * k = omega arith in
    mul-one y ∙ exact ∙ ap (λ n. floor_div y k *ℤ pos n) one

-- ---- integers as fractions

floor_one : (z : ℤ) → floor_div z 1 ≡ z
floor_one z = let l = floor_law z 1 (omega arith) in let m = mul-one (floor_div z 1) in omega (arith, ints, l.0, l.1, m)

pub whole_floor : (z : ℤ) → floor (whole z) ≡ z
whole_floor z = floor_one z

twice : (z : ℤ) → pos 0 -ℤ (pos 0 -ℤ z) ≡ z
twice z = omega (arith, ints)

pub whole_ceiling : (z : ℤ) → ceiling (whole z) ≡ z
whole_ceiling z = ap (λ y. pos 0 -ℤ y) (floor_one (pos 0 -ℤ z)) ∙ twice z

module _ (a : ℕ → ℤ) where
  is_whole : (p : Polynomial) (y : ℤ) → HasWidth p a y → Is a p (whole y)
  is_whole p y h = sym (width_whole a p y h)

  has_whole : (p : Polynomial) (x : Fraction) (z : ℤ) → Proper x → Is a p x → IsWhole z x → HasWidth p a z
  has_whole p x z h e f = whole_width a p z (same_trans (fraction_at a p) x (whole z) h (sym e) f)

  pub number_width : (span : Span) (z : ℤ) (p : Polynomial) → width_of_number span z ≡ Ok p → HasWidth p a z
  number_width span z p h = has_whole p (whole z) z (omega arith) (number_is a span z p h) refl

  pub combined_width : (span : Span) (o : Combination) (p q r : Polynomial) (y v : ℤ) → IsPolynomial p → IsPolynomial q → HasWidth p a y →
      HasWidth q a v →
      width_combined span o p q ≡ Ok r → HasWidth r a (number_by o y v)
  combined_width span o p q r y v i j e f h =
      has_whole r (of_two fractions o (whole y) (whole v)) (number_by o y v) (some_of_two o (whole y) (whole v) (omega arith) (omega arith))
      (combined_is a span o p q r (whole y) (whole v) i j (is_whole p y e) (is_whole q v f) h) (whole_of_two o y v)

  pub sum_width : (p q : Polynomial) (y v : ℤ) → IsPolynomial p → IsPolynomial q → HasWidth p a y → HasWidth q a v →
      HasWidth (sum_map p q) a (y +ℤ v)
  sum_width p q y v i j e f =
      let r = fraction_at a p in
      let s = fraction_at a q in
      whole_width a (sum_map p q) (y +ℤ v)
      (same_trans (fraction_at a (sum_map p q)) (plus r s) (whole (y +ℤ v)) (some_both r s i.lowest.positive j.lowest.positive) (sum_same a p q i j)
      (same_trans (plus r s) (plus (whole y) (whole v)) (whole (y +ℤ v)) (omega arith)
      (plus_same r s (whole y) (whole v) (width_whole a p y e) (width_whole a q v f)) (whole_of_two Sum y v)))

  pub difference_width : (p q : Polynomial) (y v : ℤ) → IsPolynomial p → IsPolynomial q → HasWidth p a y → HasWidth q a v →
      HasWidth (difference_map p q) a (y -ℤ v)
  difference_width p q y v i j e f =
      let r = fraction_at a p in
      let s = fraction_at a q in
      whole_width a (difference_map p q) (y -ℤ v)
      (same_trans (fraction_at a (difference_map p q)) (less r s) (whole (y -ℤ v)) (some_both r s i.lowest.positive j.lowest.positive) (difference_same a p q i j)
      (same_trans (less r s) (less (whole y) (whole v)) (whole (y -ℤ v)) (omega arith)
      (less_same r s (whole y) (whole v) (width_whole a p y e) (width_whole a q v f)) (whole_of_two Difference y v)))

  pub negated_width : (span : Span) (p q : Polynomial) (y : ℤ) → IsPolynomial p → HasWidth p a y →
      width_difference span (constant_map (pos 0)) p ≡ Ok q →
      HasWidth q a (pos 0 -ℤ y)
  negated_width span p q y i e h = combined_width span Difference (constant_map (pos 0)) p q (pos 0) y zero_held i (int_end (pos 0) a) e h

  pub divided_width : (span : Span) (p q : Polynomial) (k : ℕ) (y : ℤ) → IsPolynomial p → 0 < k → HasWidth p a y → floor_mod y k ≡ 0 →
      width_divided span p k ≡ Ok q →
      HasWidth q a (floor_div y k)
  divided_width span p q k y i l e m h =
      has_whole q (parted (whole y) k) (floor_div y k) (some_parted (whole y) k (omega arith) l)
      (divided_is a span p q k (whole y) i l (is_whole p y e) h) (quotient_whole y k l m)

  -- as an end of a range
  pub whole_ends : (p : Polynomial) (z : ℤ) → IsPolynomial p → HasWidth p a z →
      (ceiling (end_at (shown p) a) ≡ z) × (floor (end_at (shown p) a) ≡ z)
  whole_ends p z i h =
      let e = shown_is p a in
      let w = width_whole a p z h in (
        ap ceiling e ∙ same_ceiling (fraction_at a p) (whole z) i.lowest.positive (omega arith) w ∙ whole_ceiling z,
        ap floor e ∙ same_floor (fraction_at a p) (whole z) i.lowest.positive (omega arith) w ∙ whole_floor z,
      )

  -- the integer that is evaluated
  pub width_value : (p : Polynomial) (z : ℤ) → IsPolynomial p → HasWidth p a z → IsWidth a p (int z)
  width_value p z i h = let e = width_at_is a p z i h in (ap int (sym e), subst (HasWidth p a) (sym e) h, i)

  -- an atom is its own integer
  pub atom_width : (n : ℕ) (z : ℤ) → a n ≡ z → HasWidth (atom_map n) a z
  unfolding atom_map
  atom_width n z e = value_atom a n ∙ e ∙ sym (mul-one z)

  pub atom_counts : (n : ℕ) (y : Value) (z : ℤ) → y ≡ int z → a n ≡ z → CountsAs a (Some (atom_at n)) y
  atom_counts n y z e f = subst (IsWidth a (atom_map n)) (sym e) (width_value (atom_map n) z (atom_is_polynomial n) (atom_width n z f))
