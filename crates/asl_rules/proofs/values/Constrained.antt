-- Integers in constraints: the test of a closed type, and the words of asl_cons.
use Rattle.std.proofs.Common.{◌≡◌, ℕ, inl, inr, true, ℤ, pos, negsuc, List, [], ◌∷◌, ◌≤◌, refl, sym, ap₂, ◌∙◌, subst, arith}
use Rattle.std.specs.Prelude.{◌≤ℤ◌, ◌*ℤ◌, nat_le}
use Rattle.std.proofs.lemmas.Int.{ints}
use Rattle.std.proofs.lemmas.Bool.Decides.{nat_tests}
use Rattle.asl_poly.specs.Terms.{Polynomial}
use Rattle.asl_poly.specs.Fractions.{Fraction, fraction_at}
use Rattle.asl_poly.specs.Poly.{IsAtMost, IsAtLeast}
use Rattle.asl_cons.specs.declared.End.{End}
use Rattle.asl_cons.specs.declared.End.TheVariants.{Int, Width}
use Rattle.asl_cons.specs.declared.Part.{Part}
use Rattle.asl_cons.specs.Constraint.{poly_of, InSome, In, IsEnd, AllEnds, Below}
use Rattle.asl_cons.proofs.Covering.{value_constant_map, denominator_constant_map, end_some}
use Rattle.asl_cons.proofs.Membership.{below_in}
use Rattle.asl_cons.proofs.Results as results
use Rattle.asl_cons.specs.Arithmetic.{shown}
use Rattle.asl_rules.specs.types.Closed.{Assignment, Range, floor, ceiling, range_in, not_above, in_one, in_some, is_in, end_at, ranges_at, constraint_at}
use Rattle.asl_rules.proofs.widths.Ratios.{Proper}
use Rattle.asl_rules.proofs.values.Rounded.{floor_is, ceiling_is}
use Rattle.asl_rules.proofs.basics.Tests.{no, both, and_true, either, or_first, or_second}

-- ---- the order of integers

nat_le_is : (m n : ℕ) → nat_le m n ≡ true → m ≤ n
nat_le_is m n h = grind (arith, nat_tests)

le_is_nat : (m n : ℕ) → m ≤ n → nat_le m n ≡ true
le_is_nat m n h = grind (arith, nat_tests)

z_pos : (m n : ℕ) → m ≤ n → pos m ≤ℤ pos n
z_pos m n h = grind (arith, ints)

z_negsuc : (m n : ℕ) → n ≤ m → negsuc m ≤ℤ negsuc n
z_negsuc m n h = grind (arith, ints)

z_mixed : (m n : ℕ) → negsuc m ≤ℤ pos n
z_mixed m n = grind (arith, ints)

pos_z : (m n : ℕ) → pos m ≤ℤ pos n → m ≤ n
pos_z m n h = grind (arith, ints)

negsuc_z : (m n : ℕ) → negsuc m ≤ℤ negsuc n → n ≤ m
negsuc_z m n h = grind (arith, ints)

never_z : {A : Type 0} (m n : ℕ) → pos m ≤ℤ negsuc n → A
never_z m n h = absurd (grind (arith, ints))

pub not_above_is : (x y : ℤ) → not_above x y ≡ true → x ≤ℤ y
not_above_is (pos m) (pos n) h = z_pos m n (nat_le_is m n h)
not_above_is (pos m) (negsuc n) h = no h
not_above_is (negsuc m) (pos n) h = z_mixed m n
not_above_is (negsuc m) (negsuc n) h = z_negsuc m n (nat_le_is n m h)

pub is_not_above : (x y : ℤ) → x ≤ℤ y → not_above x y ≡ true
is_not_above (pos m) (pos n) h = le_is_nat m n (pos_z m n h)
is_not_above (pos m) (negsuc n) h = never_z m n h
is_not_above (negsuc m) (pos n) h = refl
is_not_above (negsuc m) (negsuc n) h = le_is_nat n m (negsuc_z m n h)

-- ---- ends

abbrev over : ℤ → ℕ → Fraction
over n d = record { number = n; denominator = d }

pub end_is : (e : End) (a : Assignment) → fraction_at a (poly_of e) ≡ end_at e a
end_is (Int z) a = ap₂ over (value_constant_map a z) (denominator_constant_map z)
end_is (Width p) a = refl

pub end_proper : (e : End) (a : Assignment) → IsEnd e → Proper (end_at e a)
end_proper e a i = subst Proper (end_is e a) (end_some e i)

shown_fraction : (p : Polynomial) (a : Assignment) → fraction_at a (poly_of (shown p)) ≡ fraction_at a p
shown_fraction p a = let k = results.shown_is p a in ap₂ over k.0 k.1

pub shown_is : (p : Polynomial) (a : Assignment) → end_at (shown p) a ≡ fraction_at a p
shown_is p a = sym (end_is (shown p) a) ∙ shown_fraction p a

-- ---- constraints

module _ (a : Assignment) (z : ℤ) where
  low_in : (e : End) → IsEnd e → not_above (ceiling (end_at e a)) z ≡ true → IsAtMost a (poly_of e) z
  low_in e i h =
      let k : (end_at e a).number ≤ℤ (z *ℤ pos (end_at e a).denominator) =
      (ceiling_is (end_at e a) z (end_proper e a i)).0 (not_above_is (ceiling (end_at e a)) z h) in
      subst (λ (r : Fraction). r.number ≤ℤ (z *ℤ pos r.denominator)) (sym (end_is e a)) k

  in_low : (e : End) → IsEnd e → IsAtMost a (poly_of e) z → not_above (ceiling (end_at e a)) z ≡ true
  in_low e i h =
      let k : (end_at e a).number ≤ℤ (z *ℤ pos (end_at e a).denominator) =
      subst (λ (r : Fraction). r.number ≤ℤ (z *ℤ pos r.denominator)) (end_is e a) h in
      is_not_above (ceiling (end_at e a)) z ((ceiling_is (end_at e a) z (end_proper e a i)).1 k)

  high_in : (e : End) → IsEnd e → not_above z (floor (end_at e a)) ≡ true → IsAtLeast a (poly_of e) z
  high_in e i h =
      let k : (z *ℤ pos (end_at e a).denominator) ≤ℤ (end_at e a).number =
      (floor_is (end_at e a) z (end_proper e a i)).0 (not_above_is z (floor (end_at e a)) h) in
      subst (λ (r : Fraction). (z *ℤ pos r.denominator) ≤ℤ r.number) (sym (end_is e a)) k

  in_high : (e : End) → IsEnd e → IsAtLeast a (poly_of e) z → not_above z (floor (end_at e a)) ≡ true
  in_high e i h =
      let k : (z *ℤ pos (end_at e a).denominator) ≤ℤ (end_at e a).number =
      subst (λ (r : Fraction). (z *ℤ pos r.denominator) ≤ℤ r.number) (end_is e a) h in
      is_not_above z (floor (end_at e a)) ((floor_is (end_at e a) z (end_proper e a i)).1 k)

-- the integers of a part
abbrev range_at : Part → Assignment → Range
range_at p a = range_in (end_at p.low a) (end_at p.high a)

pub some_in : (ps : List Part) (a : Assignment) (z : ℤ) → AllEnds ps → in_some z (ranges_at ps a) ≡ true → InSome a z ps
some_in [] a z i h = no h
some_in (p ∷ ps) a z i h =
    either (in_one z (range_at p a)) (in_some z (ranges_at ps a)) h
    (λ e.
    let q = both (not_above (ceiling (end_at p.low a)) z) (not_above z (floor (end_at p.high a))) e in
    inl (low_in a z p.low i.0.0 q.0, high_in a z p.high i.0.1 q.1))
    (λ e. inr (some_in ps a z i.1 e))

pub in_some_is : (ps : List Part) (a : Assignment) (z : ℤ) → AllEnds ps → InSome a z ps → in_some z (ranges_at ps a) ≡ true
in_some_is [] a z i h = absurd h
in_some_is (p ∷ ps) a z i (inl k) =
    or_first (in_one z (range_at p a)) (in_some z (ranges_at ps a))
    (and_true (not_above (ceiling (end_at p.low a)) z) (not_above z (floor (end_at p.high a))) (in_low a z p.low i.0.0 k.0)
    (in_high a z p.high i.0.1 k.1))
in_some_is (p ∷ ps) a z i (inr k) = or_second (in_one z (range_at p a)) (in_some z (ranges_at ps a)) (in_some_is ps a z i.1 k)

pub is_in_in : (ps : List Part) (a : Assignment) (z : ℤ) → AllEnds ps → is_in z (constraint_at ps a) ≡ true → In a z ps
is_in_in [] a z i h = inl refl
is_in_in (p ∷ ps) a z i h = inr (some_in (p ∷ ps) a z i h)

nil_cons : {A : Type 0} (p : Part) (ps : List Part) → p ∷ ps ≡ [] → A
nil_cons p ps h = absurd cc

pub in_is_in : (ps : List Part) (a : Assignment) (z : ℤ) → AllEnds ps → In a z ps → is_in z (constraint_at ps a) ≡ true
in_is_in [] a z i h = refl
in_is_in (p ∷ ps) a z i (inl e) = nil_cons p ps e
in_is_in (p ∷ ps) a z i (inr k) = in_some_is (p ∷ ps) a z i k

-- an integer of a constraint lies in each that this is below
pub below_keeps : (ps qs : List Part) (a : Assignment) (z : ℤ) → AllEnds ps → AllEnds qs → Below ps qs →
    is_in z (constraint_at ps a) ≡ true → is_in z (constraint_at qs a) ≡ true
below_keeps ps qs a z i j b h = in_is_in qs a z j (below_in a z ps qs i b (is_in_in ps a z i h))
