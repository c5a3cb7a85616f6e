-- A parameter that is omitted: a run and the typed tree take the same width of the same argument, which is the one that the rules take.
use Rattle.std.proofs.Common.{◌≡◌, ℕ, suc, ◌+◌, Bool, true, false, cond, List, [], ◌∷◌, length, Option, Some, Ok, refl, sym, ap, ◌∙◌, subst, arith}
use Rattle.std.specs.Prelude.{slice_get, option_and_then}
use Rattle.asl_syn.specs.declared.tree.Expr.{Expr}
use Rattle.asl_syn.specs.declared.tree.Formal.{Formal}
use Rattle.asl_syn.specs.declared.tree.TypeExpr.{out-TypeExpr}
use Rattle.asl_syn.specs.declared.token.Span.{Span}
use Rattle.asl_syn.specs.declared.code.StaticCode.TheVariants.{T11}
use Rattle.asl_syn.specs.declared.tree.Param.{Param as WrittenParam}
use Rattle.asl_rules.specs.Faults.{found_or}
use Rattle.asl_rules.specs.runs.Plans.{Good}
use Rattle.asl_rules.specs.runs.Pures as pures
use Rattle.asl_rules.specs.private.TypedMeaning as bare
use Rattle.asl_rules.specs.Tests.{Tests, IsRight}
use Rattle.asl_rules.specs.types.Types.{Ty, Parts, no_part, part, kind, kinds, kind_eq, kinds_eq, bitvectors, width_of, integer_of, boolean, bits_of, enumeration_of, record_of, exception_of, tuple_of, array_of, named}
use Rattle.asl_rules.specs.types.Closed.{Assignment, width_at}
use Rattle.asl_rules.specs.values.Values.{Value, int}
use Rattle.asl_rules.specs.declarations.Scopes.{Entry, Param, type_of_name}
use Rattle.asl_rules.specs.types.Alone.{Polynomials, polynomial}
use Rattle.asl_rules.specs.expressions.Typing.{Width, Operand, types_of}
use Rattle.asl_rules.specs.expressions.Exprs.{width, written}
use Rattle.asl_rules.specs.expressions.Calls as rules
use Rattle.asl_rules.specs.expressions.Calls.{Giving, Replacing, given, polys}
use Rattle.asl_rules.specs.declarations.Declarations.{in_names}
use Rattle.asl_rules.specs.declarations.Programs.{formals_rule}
use Rattle.asl_poly.specs.Poly.{HasWidth}
use Rattle.asl_rules.specs.private.WellFormed.{Shaped, ShapedParts}
use Rattle.asl_rules.specs.private.Belonging.{InType}
use Rattle.asl_rules.specs.runs.Evaluation as runs
use Rattle.asl_rules.specs.runs.Evaluation.{width_of_bits}
use Rattle.asl_rules.proofs.basics.Inversions.{ok_ok, bind_ok, found_ok}
use Rattle.asl_rules.proofs.basics.Tests.{no, both, some_same, none_some}
use Rattle.asl_rules.proofs.values.SameKind.{equal_kinds, tests_equal}
use Rattle.asl_rules.proofs.values.Viewing.{width_is}
use Rattle.asl_rules.proofs.expressions.OperatorForms.{is_bitvector, within_width}
use Rattle.asl_rules.proofs.values.Rounded.{is_width_at}
use Rattle.asl_laws.proofs.values.Routines.{AllIn, AllWide}
use Rattle.asl_laws.proofs.widths.TypesOver.{Never, Over}
use Rattle.asl_laws.proofs.calls.OwnWidths.{alone_same}
use Rattle.asl_laws.proofs.calls.OwnArguments.{AtomsFrom, Paired}
use Rattle.asl_laws.proofs.expressions.Claims.{IsWidth}

alone_bits : (n : ℕ) (T : Ty) → rules.is_width_alone n T ≡ true → kind T ≡ bitvectors
alone_bits n (bits_of w view) h = refl
alone_bits n (integer_of ps) h = no h
alone_bits n boolean h = no h
alone_bits n (enumeration_of name labels) h = no h
alone_bits n (record_of name fs) h = no h
alone_bits n (exception_of name fs) h = no h
alone_bits n (tuple_of ts) h = no h
alone_bits n (array_of k T) h = no h
alone_bits n (named name supers T) h = no h

-- as many parameters as are written
abbrev pub AsMany : List WrittenParam → List Param → Type 0
AsMany [] [] = Unit {0}
AsMany [] (q ∷ qs) = ⊥
AsMany (v ∷ vs) [] = ⊥
AsMany (v ∷ vs) (q ∷ qs) = AsMany vs qs

module _ (tests : Tests) (right : IsRight tests) (d : List ℕ → Option Ty) (a : Assignment) (p : Polynomials) (over : List Entry) (widths : (e : Expr) (w : Width) → width tests e (in_names over) ≡ Ok w → polynomial e p ≡ Some w.poly) (fixed : (name : List ℕ) (T : Ty) → type_of_name name over ≡ Some T → Over Never T) where
  -- the width that an argument gives
  pub record GivenSo (n : ℕ) (gs : List Formal) (xs all : List Value) (r : Giving) : Type 0 where
    pub run_is : runs.given_by p n gs xs ≡ Some (int (width_at r.given.width a))
    pub tree_is : option_and_then width_of_bits (slice_get all r.place) ≡ Some (int (width_at r.given.width a))
    pub wide : IsWidth a r.given.width (int (width_at r.given.width a))

  bits_width : (n : ℕ) (T S : Ty) (x : Value) → rules.is_width_alone n T ≡ true → kind_eq (kind T) (kind S) ≡ true → Shaped d S →
      InType d a x S →
      (width_of_bits x ≡ Some (int (width_at (width_of S) a))) × IsWidth a (width_of S) (int (width_at (width_of S) a))
  bits_width n T S x h k s i =
      let e : kind S ≡ bitvectors = sym (equal_kinds (kind T) (kind S) k) ∙ alone_bits n T h in
      let z = is_bitvector d a tests right S x (tests_equal (kind S) bitvectors e) i in
      let l = width_is (length z.0) (width_at (width_of S) a) z.3 in
      let m = within_width d S s in
      (ap width_of_bits z.2 ∙ ap (λ w. Some (int w)) (sym l), (refl, subst (HasWidth (width_of S) a) (sym l) (is_width_at a (width_of S) (length z.0) m l), m))

  given_one : (b : Bool) (n k : ℕ) (g : Formal) (gs : List Formal) (T : Ty) (o : Operand) (x : Value) (xs all : List Value)
      (rest : Option Giving) (r : Giving) → runs.is_width_alone p n (out-TypeExpr g.ty) ≡ b → rules.is_width_alone n T ≡ b →
      kind_eq (kind T) (kind o.typed.ty) ≡ true → Shaped d o.typed.ty → InType d a x o.typed.ty → slice_get all k ≡ Some x →
      cond b (Some (record { place = k; given = given (width_of o.typed.ty) o.span })) rest ≡ Some r → (rest ≡ Some r → GivenSo n gs xs all r) → GivenSo n (g ∷ gs) (x ∷ xs) all r
  given_one true n k g gs T o x xs all rest r e f h s i q z next =
      let w = bits_width n T o.typed.ty x f h s i in
      subst (λ (y : Giving). GivenSo n (g ∷ gs) (x ∷ xs) all y) (some_same (record { place = k; given = given (width_of o.typed.ty) o.span }) r z)
      (record { run_is = ap (λ b. cond b (width_of_bits x) (runs.given_by p n gs xs)) e ∙ w.0; tree_is = ap (option_and_then width_of_bits) q ∙ w.0; wide = w.1 })
  given_one false n k g gs T o x xs all rest r e f h s i q z next =
      let m = next z in
      record { run_is = ap (λ b. cond b (width_of_bits x) (runs.given_by p n gs xs)) e ∙ m.run_is; tree_is = m.tree_is; wide = m.wide }

  zero_on : (k : ℕ) → k ≡ 0 + k
  zero_on k = omega arith

  suc_on : (m k : ℕ) → suc m + k ≡ m + suc k
  suc_on m k = omega arith

  pub given_same : (n k : ℕ) (gs : List Formal) (Ts : Parts) (os : List Operand) (xs all : List Value) (r : Giving) →
      formals_rule tests gs over ≡ Ok Ts → kinds_eq (kinds Ts) (kinds (types_of os)) ≡ true → AllIn d a (types_of os) xs →
      ShapedParts d (types_of os) → ((m : ℕ) → slice_get xs m ≡ slice_get all (m + k)) →
      rules.given_by_argument n k Ts os ≡ Some r → GivenSo n gs xs all r
  given_same n k [] Ts os xs all r h q i c at z =
      none_some r (subst (λ Us. rules.given_by_argument n k Us os ≡ Some r) (sym (ok_ok no_part Ts h)) z)
  given_same n k (g ∷ gs) Ts [] xs all r h q i c at z =
      let W = bind_ok (written tests g.ty false (in_names over)) _ Ts h in
      let R = bind_ok (formals_rule tests gs over) _ Ts W.then in
      no (subst (λ Us. kinds_eq (kinds Us) (kinds (types_of [])) ≡ true) (sym (ok_ok (part W.value.ty R.value) Ts R.then)) q)
  given_same n k (g ∷ gs) Ts (o ∷ os) [] all r h q i c at z = absurd i
  given_same n k (g ∷ gs) Ts (o ∷ os) (x ∷ xs) all r h q i c at z =
      let W = bind_ok (written tests g.ty false (in_names over)) _ Ts h in
      let R = bind_ok (formals_rule tests gs over) _ Ts W.then in
      let e = ok_ok (part W.value.ty R.value) Ts R.then in
      let q2 = both (kind_eq (kind W.value.ty) (kind o.typed.ty)) (kinds_eq (kinds R.value) (kinds (types_of os))) (subst (λ Us. kinds_eq (kinds Us) (kinds (types_of (o ∷ os))) ≡ true) (sym e) q) in
      given_one (rules.is_width_alone n W.value.ty) n k g gs W.value.ty o x xs all (rules.given_by_argument n (suc k) R.value os) r
      (alone_same tests p (in_names over) widths fixed n g.ty W.value W.first) refl q2.0 c.1 i.0
      (ap (slice_get all) (zero_on k) ∙ sym (at 0))
      (subst (λ Us. rules.given_by_argument n k Us (o ∷ os) ≡ Some r) (sym e) z)
      (λ y. given_same n (suc k) gs R.value os xs all r R.first q2.1 i.1 c.2 (λ m. at (suc m) ∙ ap (slice_get all) (suc_on m k)) y)

  -- ---- all parameters of a call without braces

  pub record OmittedSo (span : Span) (n : ℕ) (vs : List WrittenParam) (qs : List Param) (gs : List Formal) (xs : List Value) (r : Replacing) : Type 0 where
    pub values : List Value
    pub run_is : runs.omitted span p n vs gs xs ≡ Good values
    pub tree_is : bare.widths_of span r.places xs ≡ Good values
    pub wide : AllWide a (polys r.given) values
    pub paired : Paired qs r.given

  start_on : (m : ℕ) → m ≡ m + 0
  start_on m = omega arith

  pub omitted_same : (span : Span) (n : ℕ) (vs : List WrittenParam) (qs : List Param) (gs : List Formal) (Ts : Parts) (os : List Operand)
      (xs : List Value) (r : Replacing) → AsMany vs qs → AtomsFrom n qs → formals_rule tests gs over ≡ Ok Ts →
      kinds_eq (kinds Ts) (kinds (types_of os)) ≡ true → AllIn d a (types_of os) xs → ShapedParts d (types_of os) →
      rules.widths_omitted span qs Ts os ≡ Ok r → OmittedSo span n vs qs gs xs r
  omitted_same span n [] [] gs Ts os xs r m t h k i c e =
      subst (λ (z : Replacing). OmittedSo span n [] [] gs xs z) (ok_ok (rules.replacing [] [] []) r e) (record { values = []; run_is = refl; tree_is = refl; wide = tt; paired = tt })
  omitted_same span n [] (q ∷ qs) gs Ts os xs r m t h k i c e = absurd m
  omitted_same span n (v ∷ vs) [] gs Ts os xs r m t h k i c e = absurd m
  omitted_same span n (v ∷ vs) (q ∷ qs) gs Ts os xs r m t h k i c e =
      let u = bind_ok (found_or (rules.given_by_argument q.atom 0 Ts os) T11 span) _ r e in
      let s = bind_ok (rules.widths_omitted span qs Ts os) _ r u.then in
      let f = found_ok (rules.given_by_argument q.atom 0 Ts os) T11 span u.value u.first in
      let g =
      given_same n 0 gs Ts os xs xs u.value h k i c (λ j. ap (slice_get xs) (start_on j))
      (subst (λ l. rules.given_by_argument l 0 Ts os ≡ Some u.value) t.0 f) in
      let o = omitted_same span (n + 2) vs qs gs Ts os xs s.value m t.1 h k i c s.first in
      let y = int (width_at u.value.given.width a) in
      subst (λ (z : Replacing). OmittedSo span n (v ∷ vs) (q ∷ qs) gs xs z) (ok_ok (rules.argument_first u.value.given u.value.place s.value) r s.then)
      (record {
        values = y ∷ o.values;
        run_is = ap (λ w. pures.◌>>=◌ (pures.there span w) (λ z. pures.◌>>=◌ (runs.omitted span p (n + 2) vs gs xs) (λ zs. Good (z ∷ zs)))) g.run_is ∙ ap (λ w. pures.◌>>=◌ w (λ zs. Good (y ∷ zs))) o.run_is;
        tree_is = ap (λ w. pures.◌>>=◌ (pures.there span w) (λ z. pures.◌>>=◌ (bare.widths_of span s.value.places xs) (λ zs. Good (z ∷ zs)))) g.tree_is ∙ ap (λ w. pures.◌>>=◌ w (λ zs. Good (y ∷ zs))) o.tree_is;
        wide = (g.wide, o.wide);
        paired = o.paired;
      })
