-- Types with widths in the place of atoms: when there is one, and lists that are built one by one.
use Rattle.std.proofs.Common.{◌≡◌, ℕ, suc, ◌+◌, ◌*◌, ◌^◌, ◌<◌, ◌≤◌, Bool, true, false, nat_le, cond, Option, Some, None, List, [], ◌∷◌, ◌++◌, length, get_or, drop, refl, sym, ap, ◌∙◌, arith}
use Rattle.std.specs.Prelude.{option_map}
use Rattle.std.proofs.lemmas.Bool.Decides.{nat_tests}
use Rattle.asl_poly.specs.WidthLimits.{finest}
use Rattle.asl_poly.specs.Terms.{Summand, Polynomial}
use Rattle.asl_poly.specs.Substitute.{ReplacedFits, common_denominator, with_common_denominator}
use Rattle.asl_poly.specs.Poly.{SubstituteFits, substitute_map}
use Rattle.asl_cons.specs.declared.Part.{Part}
use Rattle.asl_cons.specs.Arithmetic as cons
use Rattle.asl_rules.specs.types.Types.{Ty, Parts, no_part, part, Widths, replaced_fits, substitute_fits, substituted, substituted_end, substituted_ranges, substitute, substitute_parts, with_type}
use Rattle.asl_rules.proofs.basics.Tests.{both, and_true}
use Rattle.asl_types.specs.View.{parts_of}
use Rattle.asl_types.proofs.Rest.{at_next, none_after}

-- ---- one width

fine_yes : (n : ℕ) → n ≤ 2 ^ 16 → nat_le n finest ≡ true
fine_yes n h = grind (arith, nat_tests, h)

fine_no : (n : ℕ) → nat_le n finest ≡ true → n ≤ 2 ^ 16
fine_no n e = grind (arith, nat_tests, e)

terms_fit : (by : Widths) (ts : List Summand) → ReplacedFits by ts → replaced_fits by ts ≡ true
unfolding replaced_fits
terms_fit by ts h = grind (arith, nat_tests, h.light, h.low, h.few)

terms_fit_so : (by : Widths) (ts : List Summand) → replaced_fits by ts ≡ true → ReplacedFits by ts
unfolding replaced_fits
terms_fit_so by ts e = record { light = grind (arith, nat_tests, e); low = grind (arith, nat_tests, e); few = grind (arith, nat_tests, e) }

fits : (by : Widths) (p : Polynomial) → SubstituteFits by p → substitute_fits by p ≡ true
unfolding substitute_fits
fits by p h =
    and_true (replaced_fits by (with_common_denominator by p.terms)) (nat_le (common_denominator by p.terms * p.denominator) finest)
    (terms_fit by (with_common_denominator by p.terms) h.terms) (fine_yes (common_denominator by p.terms * p.denominator) h.fine)

fits_so : (by : Widths) (p : Polynomial) → substitute_fits by p ≡ true → SubstituteFits by p
unfolding substitute_fits
fits_so by p e =
    let q = both (replaced_fits by (with_common_denominator by p.terms)) (nat_le (common_denominator by p.terms * p.denominator) finest) e in
    record { terms = terms_fit_so by (with_common_denominator by p.terms) q.0; fine = fine_no (common_denominator by p.terms * p.denominator) q.1 }

fits_not : (by : Widths) (p : Polynomial) → (SubstituteFits by p → ⊥) → substitute_fits by p ≡ false
fits_not by p h = by_test (substitute_fits by p) refl
  where
    by_test : (b : Bool) → substitute_fits by p ≡ b → b ≡ false
    by_test false e = refl
    by_test true e = absurd (h (fits_so by p e))

pub given : (by : Widths) (p q : Polynomial) → SubstituteFits by p × (q ≡ substitute_map by p) → Some q ≡ substituted by p
given by p q h = ap Some h.1 ∙ sym (ap (λ b. cond b (Some (substitute_map by p)) None) (fits by p h.0))

pub refused : (by : Widths) (p : Polynomial) → (SubstituteFits by p → ⊥) → None ≡ substituted by p
refused by p h = sym (ap (λ b. cond b (Some (substitute_map by p)) None) (fits_not by p h))

-- ---- parts of a constraint

-- these in front of what there may be
abbrev pub in_front : {A : Type 0} → List A → Option (List A) → Option (List A)
in_front xs o = option_map (λ ys. xs ++ ys) o

abbrev range_at : Widths → Part → Option Part
range_at by p = cons.part_of (substituted_end by p.low) (substituted_end by p.high)

-- as many parts as before
some_is : {A : Type 0} (x y : A) → Some x ≡ Some y → x ≡ y
some_is x y e = cc e

kept_step : (ps qs : List Part) (o : Option Part) (r : Option (List Part)) → ((rs : List Part) → Some rs ≡ r → length rs ≡ length ps) → (p : Part) → Some qs ≡ cons.with_part o r → length qs ≡ length (p ∷ ps)
kept_step ps qs None r before p h = cc h
kept_step ps qs (Some q) None before p h = cc h
kept_step ps qs (Some q) (Some rs) before p h = ap (λ (xs : List Part). length xs) (some_is qs (q ∷ rs) h) ∙ ap (λ n. suc n) (before rs refl)

kept : (by : Widths) (ps qs : List Part) → Some qs ≡ substituted_ranges by ps → length qs ≡ length ps
kept by [] qs h = ap (λ (xs : List Part). length xs) (some_is qs [] h)
kept by (p ∷ ps) qs h = kept_step ps qs (range_at by p) (substituted_ranges by ps) (λ rs e. kept by ps rs e) p h

whole_list : (qs : List Part) → length qs ≤ 64 → cons.limited (Some qs) ≡ qs
whole_list qs h = let e : nat_le (length qs) 64 ≡ true = grind (arith, nat_tests, h) in ap (λ b. cond b qs []) e

pub all_of_them : (by : Widths) (ps qs rs : List Part) → length ps ≤ 64 → Some qs ≡ substituted_ranges by ps → rs ≡ cons.limited (Some qs) → Some rs ≡ substituted_ranges by ps
all_of_them by ps qs rs few there made = ap Some (made ∙ whole_list qs (omega (arith, kept by ps qs there))) ∙ there

-- ---- parts of a tuple

abbrev pub parts_in_front : List Ty → Option Parts → Option Parts
parts_in_front [] o = o
parts_in_front (T ∷ Ts) o = option_map (λ us. part T us) (parts_in_front Ts o)

parts_one_more : (made : List Ty) (T : Ty) (o : Option Parts) → parts_in_front made (with_type (Some T) o) ≡ parts_in_front (made ++ T ∷ []) o
parts_one_more [] T None = refl
parts_one_more [] T (Some us) = refl
parts_one_more (U ∷ made) T o = ap (λ r. option_map (λ us. part U us) r) (parts_one_more made T o)

parts_of_none : (made : List Ty) → None ≡ parts_in_front made None
parts_of_none [] = refl
parts_of_none (U ∷ made) = ap (λ r. option_map (λ us. part U us) r) (parts_of_none made)

pub part_next : (by : Widths) (Ts : List Ty) (i : ℕ) (T U : Ty) (made more : List Ty) → i < length Ts → T ≡ get_or Ts i T → Some U ≡ substitute by T → more ≡ made ++ U ∷ [] →
    parts_in_front made (substitute_parts by (parts_of (drop i Ts))) ≡ substitute_parts by (parts_of Ts) →
    parts_in_front more (substitute_parts by (parts_of (drop (i + 1) Ts))) ≡ substitute_parts by (parts_of Ts)
part_next by Ts i T U made more within here this grown before =
    ap (λ xs. parts_in_front xs (substitute_parts by (parts_of (drop (i + 1) Ts)))) grown
    ∙ sym (parts_one_more made U (substitute_parts by (parts_of (drop (i + 1) Ts))))
    ∙ ap (λ o. parts_in_front made (with_type o (substitute_parts by (parts_of (drop (i + 1) Ts))))) this
    ∙ ap (λ xs. parts_in_front made (substitute_parts by (parts_of xs))) (sym (at_next Ts i T within here))
    ∙ before

pub part_none : (by : Widths) (Ts : List Ty) (i : ℕ) (T : Ty) (made : List Ty) → i < length Ts → T ≡ get_or Ts i T → None ≡ substitute by T →
    parts_in_front made (substitute_parts by (parts_of (drop i Ts))) ≡ substitute_parts by (parts_of Ts) → None ≡ substitute_parts by (parts_of Ts)
part_none by Ts i T made within here this before =
    parts_of_none made
    ∙ ap (λ o. parts_in_front made (with_type o (substitute_parts by (parts_of (drop (i + 1) Ts))))) this
    ∙ ap (λ xs. parts_in_front made (substitute_parts by (parts_of xs))) (sym (at_next Ts i T within here))
    ∙ before

parts_alone : (made : List Ty) → Some (parts_of made) ≡ parts_in_front made (Some no_part)
parts_alone [] = refl
parts_alone (U ∷ made) = ap (λ r. option_map (λ us. part U us) r) (parts_alone made)

pub part_last : (by : Widths) (Ts : List Ty) (i : ℕ) (made : List Ty) → length Ts ≤ i →
    parts_in_front made (substitute_parts by (parts_of (drop i Ts))) ≡ substitute_parts by (parts_of Ts) → Some (parts_of made) ≡ substitute_parts by (parts_of Ts)
part_last by Ts i made past before = parts_alone made ∙ ap (λ xs. parts_in_front made (substitute_parts by (parts_of xs))) (sym (none_after Ts i past)) ∙ before
