-- Where a fault of the code T04 comes from: an evaluation stopped with a dynamic fault, or a call or a global `var` stands where it may not.
-- All other rules have other codes.
use Rattle.std.proofs.Common.{◌≡◌, ℕ, inl, inr, Bool, true, List, [], Option, Some, None, Result, Ok, Err, refl, sym, ◌∙◌, subst, ◌⊎◌, ◌∷◌}
use Rattle.asl_syn.specs.declared.token.Span.{Span}
use Rattle.asl_syn.specs.declared.code.Fault.{Fault}
use Rattle.asl_syn.specs.declared.code.StaticCode.{StaticCode}
use Rattle.asl_syn.specs.declared.code.StaticCode.TheVariants.{S03, T04}
use Rattle.asl_syn.specs.declared.tree.Expr.{Expr}
use Rattle.asl_syn.specs.declared.tree.Decl.{Decl}
use Rattle.asl_syn.specs.declared.tree.Decl.TheVariants as dc
use Rattle.asl_syn.specs.declared.tree.StorageDecl.{StorageDecl}
use Rattle.asl_syn.specs.declared.tree.TypeExpr.{TypeExpr}
use Rattle.asl_grammar.specs.Reading.{File, ReadsAt}
use Rattle.asl_rules.specs.declared.entry.Entry.{Entry as Asked}
use Rattle.asl_rules.specs.Faults.{none_at, found_or}
use Rattle.asl_rules.specs.Tests.{Tests, IsRight}
use Rattle.asl_rules.specs.types.Types as types
use Rattle.asl_rules.specs.types.Types.{Ty, is_integer}
use Rattle.asl_rules.specs.types.Closed.{closed}
use Rattle.asl_rules.specs.values.Values.{Value}
use Rattle.asl_rules.specs.values.Vectors.{literal_of}
use Rattle.asl_rules.specs.types.Writing.{Written}
use Rattle.asl_rules.specs.expressions.Exprs.{found_type, written}
use Rattle.asl_rules.specs.declarations.Names.{names_rule, all_declared}
use Rattle.asl_rules.specs.declarations.Scopes.{Entry}
use Rattle.asl_rules.specs.declarations.Barred.{barred}
use Rattle.asl_rules.specs.private.Belonging.{InType}
use Rattle.asl_rules.specs.private.Agreement.{no_atoms, types_in}
use Rattle.asl_rules.specs.runs.Plans.{Faulted, Stuck, Pure, Good, Bad}
use Rattle.asl_rules.specs.declarations.Constants.{constant}
use Rattle.asl_rules.specs.types.Written.{first_value}
use Rattle.asl_rules.specs.declarations.Declarations.{in_names, evaluated}
use Rattle.asl_rules.specs.declarations.Programs.{as_number, origin, verdict, ReadFault, default_decls, final_decls}
use Rattle.asl_rules.specs.private.Grown.{AreGrown}
use Rattle.asl_rules.proofs.basics.Inversions.{ok_ok, err_ok}
use Rattle.asl_laws.proofs.scopes.GrownTexts.{judged_grown}
use Rattle.asl_rules.proofs.values.Shapes.{integer_is}
use Rattle.asl_rules.proofs.values.KindOf.{has_kind}
use Rattle.asl_rules.proofs.values.SameKind.{equal_kinds}
use Rattle.asl_laws.specs.Evaluated.{GivesOrFaults, ConstantsGiven, Evaluates, AreVisible, StandsIn, EvaluationFaults, FirstValueFaults, HasCause}
use Rattle.asl_laws.specs.Spans.{Mark, place, literal, Spans, Each, IsAmong, all_of, expr_spans, decl_spans}
use Rattle.asl_laws.proofs.spans.EachSpan.{each_one, each_among}
use Rattle.asl_laws.proofs.spans.OtherCodes.{Other}
use Rattle.asl_laws.proofs.spans.Standing.{At, Stands, Marked, next_by}
use Rattle.asl_laws.proofs.spans.DeclSpans.{names_stand, all_declared_stand}
use Rattle.asl_laws.proofs.spans.ValueEnds.{Ends, first_ends}
use Rattle.asl_laws.proofs.spans.KnownSpans.{MaybeAt, known_there, barred_there}
use Rattle.asl_laws.proofs.spans.ProgramSpans.{IsOutside, AsksOf, verdict_stands}
use Rattle.asl_laws.proofs.evaluations.NeverStuck.{evaluates}
use Rattle.asl_syn.specs.declared.read.ReadDecl.{ReadDecl}
use Rattle.asl_laws.proofs.verdict.ReadVerdict.{Faulty, HeaderSays, bodies_say, fault_of_steps}
use Rattle.asl_laws.proofs.basics.Lists.{AllOf}
use Rattle.asl_rules.specs.declarations.Replacing.{Header, header_of, bodies_matched}

-- the code isn't that of literals that are none
abbrev other_than : StaticCode → Type 0
other_than S03 = ⊥
other_than code = Unit {0}

module _ (t : Tests) (ds : List Decl) where
  -- the code T04 has a cause
  abbrev Caused : Fault → Type 0
  Caused f = f.code ≡ T04 → HasCause t ds f

  -- other codes need none, wherever they are
  anywhere : (span : Span) → At Caused span
  anywhere span = record { fault_has = λ code o e. absurd (subst Other e o) }

  bare_literal : (span : Span) (o : Option (List Bool)) → Stands Caused (found_or o S03 span)
  bare_literal span None = record { has = λ e. absurd (subst other_than (sym e) tt) }
  bare_literal span (Some bs) = tt

  any_mark : (mark : Mark) → Marked Caused t mark
  any_mark (place span) = anywhere span
  any_mark (literal span text) = (anywhere span, bare_literal span (literal_of t.limit text))

  all_anywhere : (s : Spans) → Each (Marked Caused t) s
  all_anywhere = each_one (Marked Caused t) any_mark

  -- ---- evaluations

  -- an evaluation of an expression outside bodies
  known_has : (R : Value → Type 0) (names : List Entry) → AreVisible t ds names → (e : Expr) → IsOutside ds e → barred e names ≡ None →
      (r : Pure Value) → constant t.limit e names ≡ r →
      GivesOrFaults R r → Ends (λ span. IsAmong span (expr_spans e)) r → Stands Caused (evaluated r)
  known_has R names v e out b (Good x) q h k = tt
  known_has R names v e (d, (i, is)) b (Bad (Faulted code span)) q h k =
      let there : EvaluationFaults t ds code span = record {
        decl = d;
        stands = i;
        expr = e;
        expr_is = is;
        names = names;
        visible = v;
        may = b;
        ends = q;
        inside = k;
      } in
      record { has = λ n. inl (code, (refl, inl there)) }
  known_has R names v e out b (Bad (Stuck mistake span)) q h k = absurd h

  -- the first value of a type
  first_has : (names : List Entry) → AreVisible t ds names → (s : StorageDecl) → StandsIn (dc.Storage s) ds → s.init ≡ None →
      (ty : TypeExpr) → s.ty ≡ Some ty → (W : Written) →
      written t ty true (in_names names) ≡ Ok W → (r : Pure Value) → first_value t.limit (found_type t ty).span (closed W.ty) ≡ r →
      GivesOrFaults (λ x. Unit {0}) r → Ends (λ span. (found_type t ty).span ≡ span) r → Stands Caused (evaluated r)
  first_has names v s i init ty is W w (Good x) q h k = tt
  first_has names v s i init ty is W w (Bad (Faulted code span)) q h k =
      let there : FirstValueFaults t ds code span = record {
        decl = s;
        stands = i;
        no_init = init;
        ty = ty;
        ty_is = is;
        names = names;
        visible = v;
        meant = W;
        meant_is = w;
        ends = q;
        at = k;
      } in
      record { has = λ n. inl (code, (refl, inr there)) }
  first_has names v s i init ty is W w (Bad (Stuck mistake span)) q h k = absurd h

  given_value : (R : Value → Type 0) (p : Pure Value) (x : Value) → GivesOrFaults R p → evaluated p ≡ Ok x → R x
  given_value R (Good y) x h e = subst R (ok_ok y x e) h
  given_value R (Bad (Faulted code span)) x h e = err_ok _ x e
  given_value R (Bad (Stuck mistake span)) x h e = absurd h

  barred_has : (names : List Entry) → AreVisible t ds names → (e : Expr) → IsOutside ds e → (o : Option Span) → barred e names ≡ o →
      MaybeAt t (λ span. IsAmong span (expr_spans e)) o → Stands Caused (none_at T04 o)
  barred_has names visible e out None h k = tt
  barred_has names visible e (d, (i, is)) (Some span) h k = record {
    has = λ n. inr (record { decl = d; stands = i; expr = e; expr_is = is; names = names; visible = visible; holds = h; inside = k });
  }

  number_has : (span : Span) (names : List Entry) (T : Ty) (x : Value) → is_integer T ≡ true → InType (types_in names) no_atoms x T →
      Stands Caused (as_number span x)
  number_has span names T x h i =
      let z = integer_is x (has_kind no_atoms T x i.0 ∙ equal_kinds (types.kind T) types.integers h) in
      subst (λ y. Stands Caused (as_number span y)) (sym z.1) tt

  module _ (given : Evaluates t ds) where
    constants : (names : List Entry) → AreVisible t ds names → ConstantsGiven t names
    constants names (inl (n, same)) = subst (ConstantsGiven t) same (given.each_turn n)
    constants names (inr same) = subst (ConstantsGiven t) same given.all

    asks : AsksOf t ds Caused
    asks = record {
      barred_at = λ names v e out.
          barred_has names v e out (barred e names) refl
          (barred_there t (λ span. IsAmong span (expr_spans e)) e names (each_among (expr_spans e)));
      known_at = λ names v e out k S b so.
          known_has _ names v e out b (constant t.limit e names) refl (constants names v e k S b so)
          (known_there t (λ span. IsAmong span (expr_spans e)) e names (each_among (expr_spans e)));
      number_at =
          λ names v e out k S b so i x g. number_has _ names S.ty x i
          (given_value _ (constant t.limit e names) x (constants names v e k S b so) g);
      bare_at = λ s i ty init p. record { has = λ e. absurd (subst other_than (sym e) tt) };
      first_at = λ names v s i init ty is W w p.
          let at = (found_type t ty).span in
          first_has names v s i init ty is W w (first_value t.limit at (closed W.ty)) refl (given.first at (closed W.ty))
          (first_ends (λ span. at ≡ span) t.limit at (closed W.ty) refl);
    }

    caused : (e : Asked) → Stands Caused (verdict e ds t)
    caused e = verdict_stands t Caused ds asks e (anywhere origin) (all_anywhere (all_of decl_spans ds))

  -- names that are not apart have another code
  refused : (e : Asked) (g : Fault) → names_rule [] (all_declared ds) ≡ Err g → Stands Caused (verdict e ds t)
  unfolding verdict
  refused e g h =
      next_by Caused (names_rule [] (all_declared ds)) _
      (names_stand t Caused [] (all_declared ds) (all_declared_stand t Caused ds (all_anywhere (all_of decl_spans ds))))
      (λ a. err_ok g tt (sym h ∙ a))

  all_caused : IsRight t → AreGrown ds → (e : Asked) (r : Result (Unit {0}) Fault) → names_rule [] (all_declared ds) ≡ r →
      Stands Caused (verdict e ds t)
  all_caused right grown e (Ok tt) h = caused (evaluates t right ds grown h) e
  all_caused right grown e (Err g) h = refused e g h

  -- a fault of the code T04 has a cause
  pub has_cause : IsRight t → AreGrown ds → (e : Asked) (f : Fault) → verdict e ds t ≡ Err f → f.code ≡ T04 → HasCause t ds f
  has_cause right grown e f h = (subst (λ r. Stands Caused r) h (all_caused right grown e (names_rule [] (all_declared ds)) refl)).has

header_says_no : (o : Option Header) → HeaderSays (λ f. f.code ≡ T04 → ⊥) o
header_says_no None = tt
header_says_no (Some h) = ((λ e. cc), (λ e. cc))

headers_say_no : (ds : List ReadDecl) → AllOf (λ d. HeaderSays (λ f. f.code ≡ T04 → ⊥) (header_of d)) ds
headers_say_no [] = tt
headers_say_no (d ∷ ds) = (header_says_no (header_of d), headers_say_no ds)

-- the fault of a body that replaces another has another code
no_cause : (f : Fault) (ds : List ReadDecl) → bodies_matched ds ≡ Err f → f.code ≡ T04 → ⊥
no_cause f ds m c = bodies_say (λ g. g.code ≡ T04 → ⊥) f ds (headers_say_no ds) m c

-- so has one of declarations that are read from files: it is one of those that are judged
pub read_cause : (limit : ℕ) (e : Asked) (files : List File) (ds : List ReadDecl) (f : Fault) → ReadsAt limit files (Ok ds) →
    (p : ReadFault limit e ds f) → f.code ≡ T04 → HasCause p.tests (default_decls ds) f ⊎ HasCause p.tests (final_decls ds) f
read_cause limit e files ds f r p c = by (fault_of_steps e ds p.tests f p.is)
  where
    by : Faulty e ds p.tests f → HasCause p.tests (default_decls ds) f ⊎ HasCause p.tests (final_decls ds) f
    by (inl m) = absurd (no_cause f ds m c)
    by (inr (m, inl d)) =
        inl (has_cause p.tests (default_decls ds) p.right (judged_grown limit files (default_decls ds) (record { read = ds; reads = r; are = inl refl })) e f d c)
    by (inr (m, inr (a, d, g))) =
        inr (has_cause p.tests (final_decls ds) p.right (judged_grown limit files (final_decls ds) (record { read = ds; reads = r; are = inr refl })) e f g c)
