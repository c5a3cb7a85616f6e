-- Outside bodies, where no name counts in widths, a width has no atom and is whole: it is divided only where it is a multiple.
use Rattle.std.proofs.Common.{◌≡◌, inl, inr, ℕ, ◌<◌, ◌%◌, ◌==◌, ℤ, pos, Bool, true, false, ◌||◌, List, Option, Some, None, Ok, refl, sym, ap, ◌∙◌, subst, arith}
use Rattle.std.specs.Prelude.{◌*ℤ◌, unsigned_abs}
use Rattle.std.proofs.lemmas.Int.{ints}
use Rattle.std.proofs.lemmas.Bool.{cases_Bool}
use Rattle.std.proofs.lemmas.Bool.Decides.{nat_tests}
use Rattle.asl_syn.specs.declared.token.Span.{Span}
use Rattle.asl_syn.specs.declared.code.StaticCode.TheVariants.{T02, T05, T19, T20}
use Rattle.asl_syn.specs.declared.tree.Expr.{Expr}
use Rattle.asl_num.specs.Exact.{floor_div, floor_mod}
use Rattle.asl_num.proofs.Laws.{floor_law}
use Rattle.asl_poly.specs.Terms.{Polynomial, value}
use Rattle.std.specs.Option.{is_none}
use Rattle.asl_poly.specs.Operations.{is_zero, constant_of, constant_terms}
use Rattle.asl_poly.specs.Poly.{IsPolynomial, HasWidth, constant_map, constant_value, varies, is_multiple, may_divide}
use Rattle.asl_poly.proofs.Maps.{constant_is}
use Rattle.asl_poly.proofs.Ring.{mul-one}
use Rattle.asl_cons.proofs.Results as results
use Rattle.asl_rules.specs.Faults.{◌>>◌, need, fault_of}
use Rattle.asl_rules.specs.Tests.{Tests}
use Rattle.asl_rules.specs.types.Types.{is_integer}
use Rattle.asl_rules.specs.types.Widths.{width_of_known, width_of_counted, width_of_standing, width_divided}
use Rattle.asl_cons.specs.Arithmetic.{quotient_fits}
use Rattle.asl_poly.specs.Poly.{quotient_map}
use Rattle.asl_rules.specs.values.Values.{Value, int}
use Rattle.asl_rules.specs.declarations.Scopes.{Counted, Scope, Entry, Standing, Stored, Subprogram, TypeName, Label, Storage, standing_of, known_value}
use Rattle.asl_rules.specs.expressions.Typing.{Width}
use Rattle.asl_rules.specs.expressions.Exprs.{width}
use Rattle.asl_rules.specs.private.Agreement.{no_atoms}
use Rattle.asl_rules.proofs.basics.Inversions.{err_ok, then_ok, need_ok}
use Rattle.asl_rules.proofs.basics.Tests.{no}
use Rattle.asl_rules.proofs.values.Rounded.{exact_is}
use Rattle.asl_rules.proofs.widths.WidthForms.{WidthForms, by_width_forms}
use Rattle.asl_rules.proofs.widths.WidthAtoms.{Good, constant_good, number_alone, difference_alone, combined_alone, divided_alone}
use Rattle.asl_rules.proofs.widths.WidthsHeld.{number_held, difference_held, combined_held, above_0, divided_held, zero_held}
use Rattle.asl_rules.proofs.widths.Known.{integer_of_width}
use Rattle.asl_laws.proofs.scopes.ScopesOver.{value_moved}
use Rattle.asl_laws.proofs.widths.TypesOver.{Never}
use Rattle.asl_laws.proofs.widths.WholeWidths.{number_width, combined_width, negated_width, divided_width}

-- no name counts
abbrev pub NoneCounted : List Entry → Type 0
NoneCounted names = (name : List ℕ) (s : Storage) → standing_of name names ≡ Some (Stored s) → s.counted ≡ None

pub record Whole (p : Polynomial) : Type 0 where
  pub number : ℤ
  pub is : HasWidth p no_atoms number
  pub held : IsPolynomial p
  pub over : Good Never p

-- ---- names

number_whole : (span : Span) (z : ℤ) (p : Polynomial) → width_of_known span (Some (int z)) ≡ Ok p → Whole p
number_whole span z p h =
    record { number = z; is = number_width no_atoms span z p h; held = number_held span z p h; over = number_alone Never span z p h }

known_whole : (span : Span) (v : Option Value) (p : Polynomial) → width_of_known span v ≡ Ok p → Whole p
known_whole span v p h = let w = integer_of_width span v p h in number_whole span w.number p w.made

name_whole : (names : List Entry) → NoneCounted names → (span : Span) (name : List ℕ) (p : Polynomial) (o : Option Standing) →
    standing_of name names ≡ o → width_of_standing span o ≡ Ok p → Whole p
name_whole names c span name p (Some (Stored s)) e h =
    let u = then_ok (need (is_integer s.ty) T05 span) (width_of_counted span s.counted (known_value s)) p h in
    known_whole span (known_value s) p (subst (λ (k : Option Counted). width_of_counted span k (known_value s) ≡ Ok p) (c name s e) u.then)
name_whole names c span name p (Some (Label T x)) e h = err_ok (fault_of T05 span) p h
name_whole names c span name p (Some Subprogram) e h = err_ok (fault_of T02 span) p h
name_whole names c span name p (Some (TypeName T)) e h = err_ok (fault_of T02 span) p h
name_whole names c span name p None e h = err_ok (fault_of T02 span) p h

-- ---- quotients

some_constant : (z : ℤ) → is_none (constant_of (constant_terms z)) ≡ false
some_constant z = elim (cases_Bool (is_zero z)) [ inl e ↦ rw e refl | inr e ↦ rw e refl ]

-- without atoms there is one value
never_varies : (p : Polynomial) → IsPolynomial p → Good Never p → varies p ≡ false
never_varies p i g =
    let z = value no_atoms p.terms in
    let e : p.terms ≡ constant_terms z = constant_is p.terms z i.map (λ a. value_moved Never a no_atoms (λ n k. absurd k) p.terms g) in
    ap (λ ts. is_none (constant_of ts)) e ∙ some_constant z

second_of : (b c : Bool) → (b || c) ≡ true → b ≡ false → c ≡ true
second_of true c h e = no (sym e)
second_of false c h e = h

is_nothing : (n : ℕ) → (n == 0) ≡ true → n ≡ 0
is_nothing n h = grind (arith, nat_tests)

-- the integer that is divided
multiple_of : (p : Polynomial) (k : ℕ) (o : Option ℤ) → constant_value p ≡ o → is_multiple k o ≡ true →
    (z : ℤ) × (constant_value p ≡ Some z) × (unsigned_abs z % k ≡ 0)
multiple_of p k None e h = no h
multiple_of p k (Some z) e h = (z, e, is_nothing (unsigned_abs z % k) h)

no_rest : (z : ℤ) (k : ℕ) → 0 < k → unsigned_abs z % k ≡ 0 → floor_mod z k ≡ 0
no_rest z k h e = let l = floor_law z k h in let x : z ≡ floor_div z k *ℤ pos k = exact_is z k h e in omega (arith, ints, l.0, x)

divided_whole : (span : Span) (p q : Polynomial) (k : ℕ) → 0 < k → Whole p → width_divided span p k ≡ Ok q → Whole q
divided_whole span p q k l x h =
    let u = then_ok (need (may_divide k p) T19 span) (need (quotient_fits p k) T20 span >> Ok (quotient_map p k)) q h in
    let m =
    multiple_of p k (constant_value p) refl
    (second_of (varies p) (is_multiple k (constant_value p)) (need_ok (may_divide k p) T19 span tt u.first)
    (never_varies p x.held x.over)) in
    let c = results.constant_is no_atoms p m.0 m.1 in
    let w : HasWidth p no_atoms m.0 = c.0 ∙ sym (mul-one m.0) ∙ ap (λ n. m.0 *ℤ pos n) (sym c.1) in
    record {
      number = floor_div m.0 k;
      is = divided_width no_atoms span p q k m.0 x.held l w (no_rest m.0 k l m.2) h;
      held = divided_held span p q k x.held l h;
      over = divided_alone Never span p q k x.over h;
    }

-- ---- expressions

module _ (t : Tests) where
  Outside_whole : Expr → Scope → Polynomial → Type 0
  Outside_whole e G p = NoneCounted G.names → Whole p

  whole_forms : WidthForms Outside_whole
  unfolding Outside_whole
  whole_forms = record {
    whole = λ span n G p h c. number_whole span (pos n) p h;
    name = λ span name G p h c. name_whole G.names c span name p (standing_of name G.names) refl h;
    negated = λ span e G p q v h c.
        let x = v c in
        record {
          number = _;
          is = negated_width no_atoms span p q x.number x.held x.is h;
          held = difference_held span (constant_map (pos 0)) p q zero_held x.held h;
          over = difference_alone Never span (constant_map (pos 0)) p q (constant_good Never (pos 0)) x.over h;
        };
    combined = λ span o e f G p q r v w h c.
        let x = v c in
        let y = w c in
        record {
          number = _;
          is = combined_width no_atoms span o p q r x.number y.number x.held y.held x.is y.is h;
          held = combined_held span o p q r x.held y.held h;
          over = combined_alone Never span o p q r x.over y.over h;
        };
    divided = λ span e f k G p q v i h c. divided_whole span p q k (above_0 f k i) (v c) h;
  }

  pub outside_whole : (e : Expr) (G : Scope) (w : Width) → NoneCounted G.names → width t e G ≡ Ok w → Whole w.poly
  unfolding Outside_whole
  outside_whole e G w c h = by_width_forms t Outside_whole whole_forms e G w h c
