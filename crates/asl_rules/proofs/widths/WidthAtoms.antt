-- The atoms of a width are among those of what the names of the scope count as: names that stand for themselves, where each `let` counts as such.
use Rattle.std.proofs.Common.{inl, inr, ◌≡◌, ℕ, ◌*◌, ◌/◌, ℤ, pos, negsuc, List, [], ◌∷◌, Option, Some, None, Ok, refl, ap, subst}
use Rattle.std.specs.Prelude.{nat_lt, nat_le, ◌+ℤ◌}
use Rattle.std.specs.declared.cmp.Ordering.{Ordering}
use Rattle.std.specs.declared.cmp.Ordering.TheVariants.{Less, Equal, Greater}
use Rattle.asl_syn.specs.declared.token.Span.{Span}
use Rattle.asl_syn.specs.declared.code.StaticCode.TheVariants.{T02, T05, T19, T20}
use Rattle.asl_syn.specs.declared.tree.Expr.{Expr}
use Rattle.asl_poly.specs.Terms.{Summand, Polynomial, order}
use Rattle.asl_poly.specs.Operations.{insert, placed, joined, is_zero, gather, put_factor, all_factors, scaled, multiply, constant_term, sum_terms, difference_terms, product_terms}
use Rattle.asl_poly.specs.Denominators.{greatest_common_divisor, sizes, divided, raised, lowest}
use Rattle.asl_poly.specs.Poly.{sum_denominator, constant_map, sum_map, difference_map, product_map, quotient_map, may_divide}
use Rattle.asl_rules.specs.declared.joining.Combination.{Combination}
use Rattle.asl_rules.specs.declared.joining.Combination.TheVariants.{Sum, Difference, Product}
use Rattle.std.proofs.lemmas.Bool.{cases_Bool}
use Rattle.asl_cons.specs.Arithmetic.{sum_fits, product_fits, quotient_fits}
use Rattle.asl_rules.specs.Faults.{◌>>◌, need, fault_of}
use Rattle.asl_rules.specs.Tests.{Tests}
use Rattle.asl_rules.specs.types.Types.{is_integer}
use Rattle.asl_rules.specs.values.Values.{Value}
use Rattle.asl_rules.specs.declarations.Scopes.{Counted, Scope, Entry, Storage, Standing, Stored, Subprogram, TypeName, Label, standing_of, storage_of, storage_in, known_value}
use Rattle.asl_poly.specs.WidthLimits.{heaviest}
use Rattle.asl_rules.specs.types.Widths.{weight_of, width_of_number, width_of_known, width_of_counted, width_of_storage, width_of_standing, width_sum, width_difference, width_product, width_combined, width_divided}
use Rattle.asl_rules.specs.expressions.Typing.{Width}
use Rattle.asl_rules.specs.expressions.Exprs.{width}
use Rattle.asl_rules.specs.private.Worth.{Alone, AllOf, AtomsOf, AtomsAlone, WellCounted}
use Rattle.asl_rules.proofs.basics.Inversions.{ok_ok, err_ok, then_ok}
use Rattle.asl_rules.proofs.widths.WidthForms.{WidthForms, by_width_forms}
use Rattle.asl_rules.proofs.widths.Known.{integer_of_width}

-- ---- the operations make no new atoms

joined_in : (A : ℕ → Type 0) (c : ℤ) (t : Summand) (ts : List Summand) → AllOf A t.factors → AtomsOf A ts → AtomsOf A (joined c t ts)
joined_in A c t ts h k = elim (cases_Bool (is_zero c)) [ inl z ↦ rw z k | inr z ↦ rw z (h, k) ]

placed_in : (A : ℕ → Type 0) (o : Ordering) (s t : Summand) (ts rest : List Summand) → AllOf A s.factors → AllOf A t.factors → AtomsOf A ts → AtomsOf A rest → AtomsOf A (placed o s t ts rest)
placed_in A Less s t ts rest h k l r = (k, r)
placed_in A Equal s t ts rest h k l r = joined_in A (s.coefficient +ℤ t.coefficient) t ts k l
placed_in A Greater s t ts rest h k l r = (h, (k, l))

pub insert_in : (A : ℕ → Type 0) (s : Summand) (ts : List Summand) → AllOf A s.factors → AtomsOf A ts → AtomsOf A (insert s ts)
insert_in A s [] h k = (h, tt)
insert_in A s (t ∷ ts) h k = placed_in A (order s.factors t.factors) s t ts (insert s ts) h k.0 k.1 (insert_in A s ts h k.1)

pub gather_in : (A : ℕ → Type 0) (acc ts : List Summand) → AtomsOf A acc → AtomsOf A ts → AtomsOf A (gather acc ts)
gather_in A acc [] h k = h
gather_in A acc (t ∷ ts) h k = gather_in A (insert t acc) ts (insert_in A t acc k.0 h) k.1

put_in : (A : ℕ → Type 0) (x : ℕ) (xs : List ℕ) → A x → AllOf A xs → AllOf A (put_factor x xs)
put_in A x [] i h = (i, tt)
put_in A x (z ∷ zs) i h = elim (cases_Bool (nat_lt x z)) [ inl e ↦ rw e (h.0, put_in A x zs i h.1) | inr e ↦ rw e (i, h) ]

all_in : (A : ℕ → Type 0) (xs zs : List ℕ) → AllOf A xs → AllOf A zs → AllOf A (all_factors xs zs)
all_in A [] zs h k = k
all_in A (x ∷ xs) zs h k = all_in A xs (put_factor x zs) h.1 (put_in A x zs h.0 k)

pub scaled_in : (A : ℕ → Type 0) (s : Summand) (ts : List Summand) → AllOf A s.factors → AtomsOf A ts → AtomsOf A (scaled s ts)
scaled_in A s [] h k = tt
scaled_in A s (t ∷ ts) h k = (all_in A s.factors t.factors h k.0, scaled_in A s ts h k.1)

pub multiply_in : (A : ℕ → Type 0) (acc p q : List Summand) → AtomsOf A acc → AtomsOf A p → AtomsOf A q → AtomsOf A (multiply acc p q)
multiply_in A acc [] q h k l = h
multiply_in A acc (s ∷ p) q h k l = multiply_in A (gather acc (scaled s q)) p q (gather_in A acc (scaled s q) h (scaled_in A s q k.0 l)) k.1 l

abbrev pub Good : (ℕ → Type 0) → Polynomial → Type 0
Good A p = AtomsOf A p.terms

pub constant_good : (A : ℕ → Type 0) (z : ℤ) → Good A (constant_map z)
unfolding constant_map
constant_good A z = elim (cases_Bool (is_zero z)) [ inl e ↦ rw e tt | inr e ↦ rw e (tt, tt) ]

divided_in : (A : ℕ → Type 0) (k : ℕ) (ts : List Summand) → AtomsOf A ts → AtomsOf A (divided k ts)
divided_in A k [] h = tt
divided_in A k (t ∷ ts) h = (h.0, divided_in A k ts h.1)

-- lowest terms have the same atoms
pub lowest_good : (A : ℕ → Type 0) (ts : List Summand) (d : ℕ) → AtomsOf A ts → Good A (lowest ts d)
unfolding lowest
lowest_good A ts d h = divided_in A (greatest_common_divisor d (sizes ts)) ts h

raised_in : (A : ℕ → Type 0) (n : ℕ) (p : Polynomial) → Good A p → AtomsOf A (raised n p)
raised_in A n p h = scaled_in A (constant_term (pos (n / p.denominator))) p.terms tt h

pub sum_good : (A : ℕ → Type 0) (p q : Polynomial) → Good A p → Good A q → Good A (sum_map p q)
unfolding sum_map
sum_good A p q h k =
    let n = sum_denominator p q in
    lowest_good A (sum_terms (raised n p) (raised n q)) n
    (gather_in A (raised n p) (scaled (constant_term (pos 1)) (raised n q)) (raised_in A n p h)
    (scaled_in A (constant_term (pos 1)) (raised n q) tt (raised_in A n q k)))

pub difference_good : (A : ℕ → Type 0) (p q : Polynomial) → Good A p → Good A q → Good A (difference_map p q)
unfolding difference_map
difference_good A p q h k =
    let n = sum_denominator p q in
    lowest_good A (difference_terms (raised n p) (raised n q)) n
    (gather_in A (raised n p) (scaled (constant_term (negsuc 0)) (raised n q)) (raised_in A n p h)
    (scaled_in A (constant_term (negsuc 0)) (raised n q) tt (raised_in A n q k)))

pub product_good : (A : ℕ → Type 0) (p q : Polynomial) → Good A p → Good A q → Good A (product_map p q)
unfolding product_map
product_good A p q h k =
    lowest_good A (product_terms p.terms q.terms) (p.denominator * q.denominator) (multiply_in A [] p.terms q.terms tt h k)

pub quotient_good : (A : ℕ → Type 0) (p : Polynomial) (k : ℕ) → Good A p → Good A (quotient_map p k)
unfolding quotient_map
quotient_good A p k h = lowest_good A p.terms (p.denominator * k) h

pub number_alone : (A : ℕ → Type 0) (span : Span) (z : ℤ) (p : Polynomial) → width_of_number span z ≡ Ok p → Good A p
number_alone A span z p h =
    let u = then_ok (need (nat_le (weight_of z) heaviest) T20 span) (Ok (constant_map z)) p h in
    subst (Good A) (ok_ok (constant_map z) p u.then) (constant_good A z)

pub sum_alone : (A : ℕ → Type 0) (span : Span) (p q r : Polynomial) → Good A p → Good A q → width_sum span p q ≡ Ok r → Good A r
sum_alone A span p q r e f h =
    let u = then_ok (need (sum_fits p q) T20 span) (Ok (sum_map p q)) r h in
    subst (Good A) (ok_ok (sum_map p q) r u.then) (sum_good A p q e f)

pub difference_alone : (A : ℕ → Type 0) (span : Span) (p q r : Polynomial) → Good A p → Good A q → width_difference span p q ≡ Ok r →
    Good A r
difference_alone A span p q r e f h =
    let u = then_ok (need (sum_fits p q) T20 span) (Ok (difference_map p q)) r h in
    subst (Good A) (ok_ok (difference_map p q) r u.then) (difference_good A p q e f)

product_alone : (A : ℕ → Type 0) (span : Span) (p q r : Polynomial) → Good A p → Good A q → width_product span p q ≡ Ok r → Good A r
product_alone A span p q r e f h =
    let u = then_ok (need (product_fits p q) T20 span) (Ok (product_map p q)) r h in
    subst (Good A) (ok_ok (product_map p q) r u.then) (product_good A p q e f)

pub combined_alone : (A : ℕ → Type 0) (span : Span) (o : Combination) (p q r : Polynomial) → Good A p → Good A q →
    width_combined span o p q ≡ Ok r → Good A r
combined_alone A span Sum p q r e f h = sum_alone A span p q r e f h
combined_alone A span Difference p q r e f h = difference_alone A span p q r e f h
combined_alone A span Product p q r e f h = product_alone A span p q r e f h

pub divided_alone : (A : ℕ → Type 0) (span : Span) (p r : Polynomial) (k : ℕ) → Good A p → width_divided span p k ≡ Ok r → Good A r
divided_alone A span p r k e h =
    let u = then_ok (need (may_divide k p) T19 span) (need (quotient_fits p k) T20 span >> Ok (quotient_map p k)) r h in
    let v = then_ok (need (quotient_fits p k) T20 span) (Ok (quotient_map p k)) r u.then in
    subst (Good A) (ok_ok (quotient_map p k) r v.then) (quotient_good A p k e)

-- ---- A

pub known_alone : (A : ℕ → Type 0) (span : Span) (o : Option Value) (p : Polynomial) → width_of_known span o ≡ Ok p → Good A p
known_alone A span o p h = let w = integer_of_width span o p h in number_alone A span w.number p w.made

counted_alone : (A : ℕ → Type 0) (span : Span) (o : Option Counted) (v : Option Value) (p : Polynomial) → ((c : Counted) → o ≡ Some c → Good A c.poly) → width_of_counted span o v ≡ Ok p → Good A p
counted_alone A span None v p c h = known_alone A span v p h
counted_alone A span (Some x) v p c h = subst (Good A) (ok_ok x.poly p h) (c x refl)

-- what the names of a scope count as has such atoms alone
abbrev pub CountsOver : (ℕ → Type 0) → List Entry → Type 0
CountsOver A names = (name : List ℕ) (s : Storage) (c : Counted) → storage_of name names ≡ Some s → s.counted ≡ Some c → Good A c.poly

stored_alone : (A : ℕ → Type 0) (names : List Entry) → CountsOver A names → (span : Span) (name : List ℕ) (s : Storage) (p : Polynomial) → storage_of name names ≡ Some s → width_of_storage span s ≡ Ok p → Good A p
stored_alone A names w span name s p e h =
    let u = then_ok (need (is_integer s.ty) T05 span) (width_of_counted span s.counted (known_value s)) p h in
    counted_alone A span s.counted (known_value s) p (λ c q. w name s c e q) u.then

name_alone : (A : ℕ → Type 0) (names : List Entry) → CountsOver A names → (span : Span) (name : List ℕ) (o : Option Standing) (p : Polynomial) → standing_of name names ≡ o → width_of_standing span o ≡ Ok p → Good A p
name_alone A names w span name (Some (Stored s)) p e h = stored_alone A names w span name s p (ap storage_in e) h
name_alone A names w span name (Some (Label T x)) p e h = err_ok (fault_of T05 span) p h
name_alone A names w span name (Some Subprogram) p e h = err_ok (fault_of T02 span) p h
name_alone A names w span name (Some (TypeName T)) p e h = err_ok (fault_of T02 span) p h
name_alone A names w span name None p e h = err_ok (fault_of T02 span) p h

-- ---- expressions

module _ (t : Tests) (A : ℕ → Type 0) where
  Lone : Expr → Scope → Polynomial → Type 0
  Lone e G p = CountsOver A G.names → Good A p

  by_forms : WidthForms Lone
  unfolding Lone
  by_forms = record {
    whole = λ span n G p h g. number_alone A span (pos n) p h;
    name = λ span name G p h g. name_alone A G.names g span name (standing_of name G.names) p refl h;
    negated = λ span e G p q w h g. difference_alone A span (constant_map (pos 0)) p q (constant_good A (pos 0)) (w g) h;
    combined = λ span o e f G p q r v w h g. combined_alone A span o p q r (v g) (w g) h;
    divided = λ span e f k G p q v i h g. divided_alone A span p q k (v g) h;
  }

  -- the atoms of a width are among those of what the names count as
  pub width_is_over : (e : Expr) (G : Scope) → CountsOver A G.names → (w : Width) → width t e G ≡ Ok w → Good A w.poly
  unfolding Lone
  width_is_over e G g w h = by_width_forms t Lone by_forms e G w h g

-- the atoms of a width are names that stand for themselves
pub width_is_alone : (t : Tests) (e : Expr) (G : Scope) → WellCounted G.names → (w : Width) → width t e G ≡ Ok w → AtomsAlone G.names w.poly.terms
width_is_alone t e G g w h = width_is_over t (Alone G.names) e G g.alone w h
