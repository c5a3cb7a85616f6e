-- Ends as polynomials: the limits as facts and as tests.
use Rattle.std.proofs.Common.{◌≡◌, ℕ, ◌+◌, ◌*◌, ◌^◌, ◌≤◌, Bool, true, false, refl, ◌∙◌, ap, arith, length}
use Rattle.std.specs.Prelude.{Some, None, unsigned_abs, nat_le, ◌&&◌}
use Rattle.std.proofs.lemmas.Bool.{and_parts}
use Rattle.std.proofs.lemmas.Bool.Decides.{nat_tests}
use Rattle.asl_poly.specs.Terms.{Polynomial}
use Rattle.asl_poly.specs.Limits.{weight, degree, atoms_of_both}
use Rattle.asl_poly.specs.Poly.{SumFits, ProductFits, sum_denominator, weight_over}
use Rattle.asl_cons.specs.declared.End.{End}
use Rattle.asl_cons.specs.declared.End.TheVariants.{Int, Width}
use Rattle.asl_cons.specs.declared.ends.Operation.{Operation}
use Rattle.asl_cons.specs.declared.ends.Operation.TheVariants.{Sum, Difference, Product}
use Rattle.asl_cons.specs.Constraint.{poly_of}
use Rattle.asl_cons.specs.Arithmetic.{light_end, sum_fits, product_fits, shown, width_end}
use Rattle.asl_cons.specs.Operation.{LightEnd, Fits, poly_by, widths_by}

-- the limits as facts and as tests

le_true : (m n : ℕ) → m ≤ n → nat_le m n ≡ true
le_true m n h = grind (arith, nat_tests)

pub true_le : (m n : ℕ) → nat_le m n ≡ true → m ≤ n
true_le m n h = grind (arith, nat_tests)

light_in : (e : End) → LightEnd e → light_end e ≡ true
light_in (Int z) h = le_true (unsigned_abs z) (2 ^ 62) h.light
light_in (Width p) h = refl

light_back : (e : End) → light_end e ≡ true → LightEnd e
light_back (Int z) h = record { light = true_le (unsigned_abs z) (2 ^ 62) h }
light_back (Width p) h = tt

sum_in : (p q : Polynomial) → SumFits p q → sum_fits p q ≡ true
unfolding sum_fits
sum_in p q h =
    rw (
      le_true (weight_over (sum_denominator p q) p + weight_over (sum_denominator p q) q) (2 ^ 62) h.light,
      le_true (length (atoms_of_both p.terms q.terms)) 8 h.few,
      le_true (sum_denominator p q) (2 ^ 16) h.fine,
    ) refl

pub sum_back : (p q : Polynomial) → sum_fits p q ≡ true → SumFits p q
unfolding sum_fits
sum_back p q e =
    let heavy : ℕ = weight_over (sum_denominator p q) p + weight_over (sum_denominator p q) q in
    let f = and_parts (nat_le heavy (2 ^ 62)) (nat_le (length (atoms_of_both p.terms q.terms)) 8 && nat_le (sum_denominator p q)
    (2 ^ 16)) e in
    let g = and_parts (nat_le (length (atoms_of_both p.terms q.terms)) 8) (nat_le (sum_denominator p q) (2 ^ 16)) f.1 in
    record {
      light = true_le heavy (2 ^ 62) f.0;
      few = true_le (length (atoms_of_both p.terms q.terms)) 8 g.0;
      fine = true_le (sum_denominator p q) (2 ^ 16) g.1;
    }

product_in : (p q : Polynomial) → ProductFits p q → product_fits p q ≡ true
unfolding product_fits
product_in p q h =
    rw (
      le_true (weight p.terms * weight q.terms) (2 ^ 62) h.light,
      le_true (degree p.terms + degree q.terms) 4 h.low,
      le_true (length (atoms_of_both p.terms q.terms)) 8 h.few,
      le_true (p.denominator * q.denominator) (2 ^ 16) h.fine,
    ) refl

pub product_back : (p q : Polynomial) → product_fits p q ≡ true → ProductFits p q
unfolding product_fits
product_back p q e =
    let few : Bool = nat_le (length (atoms_of_both p.terms q.terms)) 8 in
    let fine : Bool = nat_le (p.denominator * q.denominator) (2 ^ 16) in
    let f = and_parts (nat_le (weight p.terms * weight q.terms) (2 ^ 62)) (nat_le (degree p.terms + degree q.terms) 4 && (few && fine)) e in
    let g = and_parts (nat_le (degree p.terms + degree q.terms) 4) (few && fine) f.1 in
    let h = and_parts few fine g.1 in
    record {
      light = true_le (weight p.terms * weight q.terms) (2 ^ 62) f.0;
      low = true_le (degree p.terms + degree q.terms) 4 g.0;
      few = true_le (length (atoms_of_both p.terms q.terms)) 8 h.0;
      fine = true_le (p.denominator * q.denominator) (2 ^ 16) h.1;
    }

shown_in : (e f : End) (fit : Bool) (m : Polynomial) → LightEnd e → LightEnd f → fit ≡ true → Some (shown m) ≡ width_end (light_end e && (light_end f && fit)) m
shown_in e f fit m h k t = rw (light_in e h, light_in f k, t) refl

nothing : (l r b : Bool) (m : Polynomial) → (l ≡ true → r ≡ true → b ≡ true → ⊥) → None ≡ width_end (l && (r && b)) m
nothing true true true m n = absurd (n refl refl refl)
nothing true true false m n = refl
nothing true false b m n = refl
nothing false r b m n = refl

pub widths_ok : (op : Operation) (e f : End) (r : Polynomial) → Fits op e f × (r ≡ poly_by op (poly_of e) (poly_of f)) → Some (shown r) ≡ widths_by op e f
widths_ok Sum e f r h = ap (λ m. Some (shown m)) h.1 ∙ shown_in e f (sum_fits (poly_of e) (poly_of f)) (poly_by Sum (poly_of e) (poly_of f)) h.0.left h.0.right (sum_in (poly_of e) (poly_of f) h.0.both)
widths_ok Difference e f r h =
    ap (λ m. Some (shown m)) h.1 ∙ shown_in e f (sum_fits (poly_of e) (poly_of f)) (poly_by Difference (poly_of e) (poly_of f)) h.0.left h.0.right (sum_in (poly_of e) (poly_of f) h.0.both)
widths_ok Product e f r h =
    ap (λ m. Some (shown m)) h.1 ∙ shown_in e f (product_fits (poly_of e) (poly_of f)) (poly_by Product (poly_of e) (poly_of f)) h.0.left h.0.right (product_in (poly_of e) (poly_of f) h.0.both)

pub widths_large : (op : Operation) (e f : End) → (Fits op e f → ⊥) → None ≡ widths_by op e f
widths_large Sum e f n =
    nothing (light_end e) (light_end f) (sum_fits (poly_of e) (poly_of f)) (poly_by Sum (poly_of e) (poly_of f))
    (λ h k t. n record { left = light_back e h; right = light_back f k; both = sum_back (poly_of e) (poly_of f) t })
widths_large Difference e f n =
    nothing (light_end e) (light_end f) (sum_fits (poly_of e) (poly_of f)) (poly_by Difference (poly_of e) (poly_of f))
    (λ h k t. n record { left = light_back e h; right = light_back f k; both = sum_back (poly_of e) (poly_of f) t })
widths_large Product e f n =
    nothing (light_end e) (light_end f) (product_fits (poly_of e) (poly_of f)) (poly_by Product (poly_of e) (poly_of f))
    (λ h k t. n record { left = light_back e h; right = light_back f k; both = product_back (poly_of e) (poly_of f) t })
