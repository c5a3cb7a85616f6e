-- Widths are polynomials within the limits, where what the names of the scope count as is.
use Rattle.std.proofs.Common.{◌≡◌, ◌≢◌, inl, inr, ℕ, suc, ◌*◌, ◌^◌, ◌<◌, ◌≤◌, true, false, ℤ, pos, negsuc, List, [], ◌∷◌, Option, Some, None, Ok, refl, ap, subst, arith}
use Rattle.std.specs.Prelude.{nat_le, unsigned_abs}
use Rattle.std.proofs.lemmas.Bool.{cases_Bool}
use Rattle.asl_syn.specs.declared.token.Span.{Span}
use Rattle.asl_syn.specs.declared.code.StaticCode.TheVariants.{T02, T05, T19, T20}
use Rattle.asl_syn.specs.declared.tree.Expr.{Expr}
use Rattle.asl_poly.specs.Terms.{Polynomial}
use Rattle.asl_poly.specs.Limits.{IsMap}
use Rattle.asl_poly.specs.Operations.{is_zero, constant_term, constant_terms, atom_terms, sum_terms, difference_terms, product_terms}
use Rattle.asl_poly.specs.Denominators.{raised}
use Rattle.asl_poly.specs.Poly.{IsPolynomial, SumFits, ProductFits, QuotientFits, sum_denominator, constant_map, atom_map, sum_map, difference_map, product_map, quotient_map, may_divide}
use Rattle.asl_poly.proofs.Maps as maps
use Rattle.asl_poly.proofs.LowestTerms.{one_is_polynomial, lowest_polynomial}
use Rattle.asl_cons.specs.Arithmetic.{sum_fits, product_fits, quotient_fits}
use Rattle.asl_cons.proofs.EndsAsWidths.{true_le, sum_back, product_back}
use Rattle.asl_rules.specs.declared.joining.Combination.{Combination}
use Rattle.asl_rules.specs.declared.joining.Combination.TheVariants.{Sum, Difference, Product}
use Rattle.asl_rules.specs.Faults.{◌>>◌, need, fault_of}
use Rattle.asl_rules.specs.Tests.{Tests}
use Rattle.asl_rules.specs.types.Types.{is_integer}
use Rattle.asl_rules.specs.values.Values.{Value}
use Rattle.asl_rules.specs.declarations.Scopes.{Counted, Scope, Entry, Storage, Standing, Stored, Subprogram, TypeName, Label, standing_of, storage_of, storage_in, known_value}
use Rattle.asl_poly.specs.WidthLimits.{heaviest, finest}
use Rattle.asl_rules.specs.types.Widths.{weight_of, width_of_number, width_of_known, width_of_counted, width_of_storage, width_of_standing, width_difference, width_combined, width_divided}
use Rattle.asl_rules.specs.expressions.Typing.{Width}
use Rattle.asl_rules.specs.expressions.Exprs.{width}
use Rattle.asl_rules.proofs.basics.Inversions.{ok_ok, err_ok, then_ok, need_ok}
use Rattle.asl_rules.proofs.widths.WorthForms.{IsWritten}
use Rattle.asl_rules.proofs.widths.WidthForms.{WidthForms, by_width_forms}
use Rattle.asl_rules.proofs.widths.Known.{integer_of_width}

-- ---- the tests of the limits

quotient_back : (p : Polynomial) (k : ℕ) → quotient_fits p k ≡ true → QuotientFits p k
unfolding quotient_fits
quotient_back p k e = record { fine = true_le (p.denominator * k) finest e }

-- ---- the operations

nothing_is_map : IsMap []
nothing_is_map = record { sorted = tt; light = omega arith; few = omega arith }

not_zero : (c : ℤ) → is_zero c ≡ false → c ≢ pos 0
not_zero c h e = let k : is_zero c ≡ true = ap is_zero e in cc

one_is_map : (c : ℤ) → is_zero c ≡ false → unsigned_abs c ≤ 2 ^ 62 → IsMap (constant_term c ∷ [])
one_is_map c h l = record { sorted = (record { counts = not_zero c h; falls = tt; degree = omega arith }, tt, tt); light = omega (arith, l); few = omega arith }

constant_is_map : (c : ℤ) → unsigned_abs c ≤ 2 ^ 62 → IsMap (constant_terms c)
constant_is_map c l = elim (cases_Bool (is_zero c)) [ inl e ↦ rw e nothing_is_map | inr e ↦ rw e (one_is_map c e l) ]

pub constant_held : (c : ℤ) → unsigned_abs c ≤ 2 ^ 62 → IsPolynomial (constant_map c)
unfolding constant_map
constant_held c l = one_is_polynomial (constant_terms c) (constant_is_map c l)

one_not_zero : pos 1 ≢ pos 0
one_not_zero h = cc

pub atom_is_map : (n : ℕ) → IsMap (atom_terms n)
atom_is_map n = record { sorted = (record { counts = one_not_zero; falls = (tt, tt); degree = omega arith }, tt, tt); light = omega arith; few = omega arith }

pub atom_is_polynomial : (n : ℕ) → IsPolynomial (atom_map n)
unfolding atom_map
atom_is_polynomial n = one_is_polynomial (atom_terms n) (atom_is_map n)

light_of : (z : ℤ) → nat_le (weight_of z) heaviest ≡ true → unsigned_abs z ≤ 2 ^ 62
light_of (pos n) h = true_le n (2 ^ 62) h
light_of (negsuc n) h = true_le (suc n) (2 ^ 62) h

pub number_held : (span : Span) (z : ℤ) (p : Polynomial) → width_of_number span z ≡ Ok p → IsPolynomial p
number_held span z p h =
    let u = then_ok (need (nat_le (weight_of z) heaviest) T20 span) (Ok (constant_map z)) p h in
    subst IsPolynomial (ok_ok (constant_map z) p u.then) (constant_held z (light_of z (need_ok (nat_le (weight_of z) heaviest) T20 span tt u.first)))

pub sum_polynomial : (p q : Polynomial) → IsPolynomial p → IsPolynomial q → SumFits p q → IsPolynomial (sum_map p q)
unfolding sum_map
sum_polynomial p q a b f =
    lowest_polynomial (sum_terms (raised (sum_denominator p q) p) (raised (sum_denominator p q) q)) (sum_denominator p q)
    (maps.sum_map p q a b f) (maps.common_some p q a b) f.fine

pub difference_polynomial : (p q : Polynomial) → IsPolynomial p → IsPolynomial q → SumFits p q → IsPolynomial (difference_map p q)
unfolding difference_map
difference_polynomial p q a b f =
    lowest_polynomial (difference_terms (raised (sum_denominator p q) p) (raised (sum_denominator p q) q)) (sum_denominator p q)
    (maps.difference_map p q a b f) (maps.common_some p q a b) f.fine

product_polynomial : (p q : Polynomial) → IsPolynomial p → IsPolynomial q → ProductFits p q → IsPolynomial (product_map p q)
unfolding product_map
product_polynomial p q a b f =
    lowest_polynomial (product_terms p.terms q.terms) (p.denominator * q.denominator)
    (maps.product_map p q a.map b.map f) (maps.product_some p q a b) f.fine

quotient_polynomial : (p : Polynomial) (k : ℕ) → IsPolynomial p → 0 < k → QuotientFits p k → IsPolynomial (quotient_map p k)
unfolding quotient_map
quotient_polynomial p k a l f =
    lowest_polynomial p.terms (p.denominator * k) a.map (maps.some_product p.denominator k a.lowest.positive l) f.fine

pub difference_held : (span : Span) (p q r : Polynomial) → IsPolynomial p → IsPolynomial q → width_difference span p q ≡ Ok r → IsPolynomial r
difference_held span p q r a b h =
    let u = then_ok (need (sum_fits p q) T20 span) (Ok (difference_map p q)) r h in
    subst IsPolynomial (ok_ok (difference_map p q) r u.then) (difference_polynomial p q a b (sum_back p q (need_ok (sum_fits p q) T20 span tt u.first)))

pub combined_held : (span : Span) (o : Combination) (p q r : Polynomial) → IsPolynomial p → IsPolynomial q →
    width_combined span o p q ≡ Ok r → IsPolynomial r
combined_held span Sum p q r a b h =
    let u = then_ok (need (sum_fits p q) T20 span) (Ok (sum_map p q)) r h in
    subst IsPolynomial (ok_ok (sum_map p q) r u.then) (sum_polynomial p q a b (sum_back p q (need_ok (sum_fits p q) T20 span tt u.first)))
combined_held span Difference p q r a b h = difference_held span p q r a b h
combined_held span Product p q r a b h =
    let u = then_ok (need (product_fits p q) T20 span) (Ok (product_map p q)) r h in
    subst IsPolynomial (ok_ok (product_map p q) r u.then) (product_polynomial p q a b (product_back p q (need_ok (product_fits p q) T20 span tt u.first)))

-- what is written is above 0
pub above_0 : (f : Expr) (k : ℕ) → IsWritten f k → 0 < k
above_0 f k w = omega (arith, w.above_0)

pub divided_held : (span : Span) (p r : Polynomial) (k : ℕ) → IsPolynomial p → 0 < k → width_divided span p k ≡ Ok r → IsPolynomial r
divided_held span p r k a l h =
    let u = then_ok (need (may_divide k p) T19 span) (need (quotient_fits p k) T20 span >> Ok (quotient_map p k)) r h in
    let v = then_ok (need (quotient_fits p k) T20 span) (Ok (quotient_map p k)) r u.then in
    subst IsPolynomial (ok_ok (quotient_map p k) r v.then)
    (quotient_polynomial p k a l (quotient_back p k (need_ok (quotient_fits p k) T20 span tt v.first)))

-- ---- names

-- what each name counts as is a polynomial within the limits
abbrev pub CountsHeld : List Entry → Type 0
CountsHeld names = (name : List ℕ) (s : Storage) (c : Counted) → storage_of name names ≡ Some s → s.counted ≡ Some c → IsPolynomial c.poly

known_held : (span : Span) (o : Option Value) (p : Polynomial) → width_of_known span o ≡ Ok p → IsPolynomial p
known_held span o p h = let w = integer_of_width span o p h in number_held span w.number p w.made

counted_held : (span : Span) (o : Option Counted) (v : Option Value) (p : Polynomial) → ((c : Counted) → o ≡ Some c → IsPolynomial c.poly) → width_of_counted span o v ≡ Ok p → IsPolynomial p
counted_held span None v p f h = known_held span v p h
counted_held span (Some c) v p f h = subst IsPolynomial (ok_ok c.poly p h) (f c refl)

stored_held : (names : List Entry) → CountsHeld names → (span : Span) (name : List ℕ) (s : Storage) (p : Polynomial) → storage_of name names ≡ Some s → width_of_storage span s ≡ Ok p → IsPolynomial p
stored_held names w span name s p e h =
    let u = then_ok (need (is_integer s.ty) T05 span) (width_of_counted span s.counted (known_value s)) p h in
    counted_held span s.counted (known_value s) p (λ c q. w name s c e q) u.then

pub name_held : (names : List Entry) → CountsHeld names → (span : Span) (name : List ℕ) (o : Option Standing) (p : Polynomial) →
    standing_of name names ≡ o → width_of_standing span o ≡ Ok p → IsPolynomial p
name_held names w span name (Some (Stored s)) p e h = stored_held names w span name s p (ap storage_in e) h
name_held names w span name (Some (Label T x)) p e h = err_ok (fault_of T05 span) p h
name_held names w span name (Some Subprogram) p e h = err_ok (fault_of T02 span) p h
name_held names w span name (Some (TypeName T)) p e h = err_ok (fault_of T02 span) p h
name_held names w span name None p e h = err_ok (fault_of T02 span) p h

-- ---- expressions

pub zero_held : IsPolynomial (constant_map (pos 0))
zero_held = constant_held (pos 0) (omega arith)

module _ (t : Tests) where
  Held : Expr → Scope → Polynomial → Type 0
  Held e G p = CountsHeld G.names → IsPolynomial p

  by_forms : WidthForms Held
  unfolding Held
  by_forms = record {
    whole = λ span n G p h w. number_held span (pos n) p h;
    name = λ span name G p h w. name_held G.names w span name (standing_of name G.names) p refl h;
    negated = λ span e G p q a h w. difference_held span (constant_map (pos 0)) p q zero_held (a w) h;
    combined = λ span o e f G p q r a b h w. combined_held span o p q r (a w) (b w) h;
    divided = λ span e f k G p q a i h w. divided_held span p q k (a w) (above_0 f k i) h;
  }

  -- each width is a polynomial within the limits, so that right tests speak of it
  pub width_is_held : (e : Expr) (G : Scope) → CountsHeld G.names → (w : Width) → width t e G ≡ Ok w → IsPolynomial w.poly
  unfolding Held
  width_is_held e G c w h = by_width_forms t Held by_forms e G w h c
