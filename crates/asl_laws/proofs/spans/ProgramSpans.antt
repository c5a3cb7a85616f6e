-- What holds of the fault of declarations: it stands at one of their spans, or, where no entry is found, at the beginning of the first file, and has another
-- code than T04, unless it is one of evaluations, of which it is asked.
use Rattle.std.proofs.Common.{◌≡◌, ℕ, zero, suc, inl, inr, Bool, true, List, [], ◌∷◌, length, Option, Some, None, Result, Ok, Err, refl, ap, ◌∙◌, subst}
use Rattle.asl_syn.specs.declared.token.Span.{Span}
use Rattle.asl_syn.specs.declared.code.Fault.{Fault}
use Rattle.asl_syn.specs.declared.code.StaticCode.{StaticCode}
use Rattle.asl_syn.specs.declared.code.StaticCode.TheVariants.{S03, T04, T05}
use Rattle.asl_syn.specs.declared.tree.Expr.{Expr}
use Rattle.asl_syn.specs.declared.tree.TypeExpr.{TypeExpr}
use Rattle.asl_syn.specs.declared.tree.StorageDecl.{StorageDecl}
use Rattle.asl_syn.specs.declared.tree.Func.{Func}
use Rattle.asl_syn.specs.declared.tree.Decl.{Decl}
use Rattle.asl_syn.specs.declared.tree.Decl.TheVariants as dc
use Rattle.asl_rules.specs.declared.effect.Effect.{Effect}
use Rattle.asl_rules.specs.declared.effect.Effect.TheVariants.{Pure, Writes}
use Rattle.asl_rules.specs.declared.entry.Entry.{Entry}
use Rattle.asl_rules.specs.Faults.{need, none_at, fitted, fault_of}
use Rattle.asl_rules.specs.Tests.{Tests}
use Rattle.asl_rules.specs.types.Types.{is_integer, misfit}
use Rattle.asl_rules.specs.values.Values.{Value}
use Rattle.asl_rules.specs.types.Closed.{closed}
use Rattle.asl_rules.specs.declarations.Names.{all_declared, names_rule}
use Rattle.asl_rules.specs.declarations.Scopes as scopes
use Rattle.asl_rules.specs.declarations.Scopes.{with_class}
use Rattle.asl_rules.specs.expressions.Typing.{Typed}
use Rattle.asl_rules.specs.types.Writing.{Written}
use Rattle.asl_rules.specs.expressions.Exprs.{found, found_type, typed, written}
use Rattle.asl_rules.specs.types.Written.{first_value}
use Rattle.asl_rules.specs.declarations.Uses.{cycles_rule}
use Rattle.asl_rules.specs.declarations.Barred.{barred}
use Rattle.asl_rules.specs.declarations.Constants.{constant}
use Rattle.asl_rules.specs.declarations.Declarations.{in_names, evaluated, storage_rule, is_var, decl_rule}
use Rattle.asl_rules.specs.declarations.Turns.{Judged, Waiting, Fine, Faulty, judged, SoFar, decl_judged, turns, all_waiting, final, faulty, faults_rule, globals_rule}
use Rattle.asl_rules.specs.declarations.Programs.{funcs_of, params_free, formals_free, params_rule, formals_rule, result_rule, limit_typed, params_are_integers, as_number, limit_of_expr, limit_rule, signature_rule, signatures_rule, signatures, overloads_rule, bodies_rule, origin, entry_rule, verdict}
use Rattle.asl_rules.proofs.basics.Inversions.{ok_ok, err_ok, bind_ok, then_ok, need_ok}
use Rattle.asl_rules.proofs.basics.Tests.{some_same}
use Rattle.asl_rules.specs.private.Judgements.{EachJudged}
use Rattle.asl_rules.proofs.verdict.Turning.{each_waiting, came_in}
use Rattle.asl_rules.proofs.verdict.AfterTurns.{Moves, next_after, next_holds}
use Rattle.asl_laws.proofs.scopes.Globals.{names_same}
use Rattle.asl_laws.proofs.basics.Lists.{AllOf}
use Rattle.asl_laws.specs.Evaluated.{names_after, expr_outside, StandsIn, AreVisible}
use Rattle.asl_laws.specs.Spans.{Mark, Each, all_of, maybe, expr_spans, type_spans, decl_spans}
use Rattle.asl_laws.proofs.spans.OtherCodes.{misfit_other}
use Rattle.asl_laws.proofs.spans.Standing.{Has, At, Answers, Stands, then_with, then_stands, bound, next, bound_by, next_by, with_by, next_with, needed, fitted_at, Marked}
use Rattle.asl_laws.proofs.spans.ExprSpans.{expr_there, type_there}
use Rattle.asl_laws.proofs.spans.DeclSpans.{names_stand, all_declared_stand, cycles_stand, type_decl_stands, params_free_stand, formals_free_stand, params_stand, formals_stand, result_stands, integers_stand, HeadStands, overloads_stand, bodies_stand, entry_stands}

-- an expression outside bodies: an initialiser, or the limit of a subprogram
abbrev pub IsOutside : List Decl → Expr → Type 0
IsOutside ds e = (d : Decl) × (StandsIn d ds × (expr_outside d ≡ Some e))

-- what is asked of evaluations outside bodies, where these names are visible: it holds of their faults, and of the fault where an expression holds what it
-- may not hold, or is no number. And of that of storage with neither a type nor an initialiser
pub record AsksOf (t : Tests) (ds : List Decl) (P : Fault → Type 0) : Type 0 where
  pub barred_at : (names : List scopes.Entry) → AreVisible t ds names → (e : Expr) → IsOutside ds e → Stands P (none_at T04 (barred e names))
  pub known_at : (names : List scopes.Entry) → AreVisible t ds names → (e : Expr) → IsOutside ds e → (k : Effect) (S : Typed) → barred e names ≡ None → typed t e (with_class (in_names names) k) ≡ Ok S → Stands P (evaluated (constant t.limit e names))
  pub number_at : (names : List scopes.Entry) → AreVisible t ds names → (e : Expr) → IsOutside ds e → (k : Effect) (S : Typed) → barred e names ≡ None → typed t e (with_class (in_names names) k) ≡ Ok S → is_integer S.ty ≡ true → (x : Value) → evaluated (constant t.limit e names) ≡ Ok x → Stands P (as_number (found t e).span x)
  pub bare_at : (s : StorageDecl) → StandsIn (dc.Storage s) ds → s.ty ≡ None → s.init ≡ None → At P s.span → Has P (fault_of S03 s.span)
  pub first_at : (names : List scopes.Entry) → AreVisible t ds names → (s : StorageDecl) → StandsIn (dc.Storage s) ds → s.init ≡ None → (ty : TypeExpr) → s.ty ≡ Some ty → (W : Written) →
      written t ty true (in_names names) ≡ Ok W → At P (found_type t ty).span → Stands P (evaluated (first_value t.limit (found_type t ty).span (closed W.ty)))

-- where nothing is there that must not be
none_there : (code : StaticCode) (o : Option Span) (u : Unit {0}) → none_at code o ≡ Ok u → o ≡ None
none_there code None u h = refl
none_there code (Some span) u h = err_ok (fault_of code span) u h

-- the spans of one of these declarations
spans_in : (Q : Mark → Type 0) (ds : List Decl) (d : Decl) → StandsIn d ds → Each Q (all_of decl_spans ds) → Each Q (decl_spans d)
spans_in Q [] d i h = absurd i
spans_in Q (e ∷ ds) d (inl q) h = subst (λ z. Each Q (decl_spans z)) q h.0
spans_in Q (e ∷ ds) d (inr i) h = spans_in Q ds d i h.1

module _ (t : Tests) (P : Fault → Type 0) (ds : List Decl) (asks : AsksOf t ds P) where
  module _ (names : List scopes.Entry) (visible : AreVisible t ds names) where
    -- ---- storage

    -- what is asked of the first value of a written type, where there is no initialiser
    abbrev FirstStands : Option TypeExpr → Option Expr → Type 0
    FirstStands ty o =
        (x : TypeExpr) → ty ≡ Some x → o ≡ None → (W : Written) → written t x true (in_names names) ≡ Ok W → At P (found_type t x).span →
        Stands P (evaluated (first_value t.limit (found_type t x).span (closed W.ty)))

    storage_stands : (s : StorageDecl) (b : Bool) (ty : Option TypeExpr) (o : Option Expr) → ((e : Expr) → o ≡ Some e → IsOutside ds e) → (ty ≡ None → o ≡ None → Has P (fault_of S03 s.span)) → FirstStands ty o → At P s.span → Each (Marked P t) (maybe type_spans ty) → Each (Marked P t) (maybe expr_spans o) → Stands P (storage_rule t s b ty o (in_names names))
    storage_stands s b None None out bare first p h k = bare refl refl
    storage_stands s b (Some ty) None out bare first p h k =
        let w = type_there t P ty h in
        bound_by P (written t ty true (in_names names)) _ (w.written_at true (in_names names)) (λ W q.
        bound P (evaluated (first_value t.limit (found_type t ty).span (closed W.ty))) _ (first ty refl refl W q w.at) (λ x. tt))
    storage_stands s b None (Some e) out bare first p h k =
        let f = expr_there t P e k in
        next_by P (none_at T04 (barred e names)) _ (asks.barred_at names visible e (out e refl)) (λ n.
        bound_by P (typed t e (in_names names)) _ (f.typed_at (in_names names)) (λ S g.
        bound P (evaluated (constant t.limit e names)) _ (asks.known_at names visible e (out e refl) Writes S (none_there T04 (barred e names) tt n) g) (λ x. tt)))
    storage_stands s b (Some ty) (Some e) out bare first p h k =
        let w = type_there t P ty h in
        let f = expr_there t P e k in
        next_by P (none_at T04 (barred e names)) _ (asks.barred_at names visible e (out e refl)) (λ n.
        bound P (written t ty true (in_names names)) _ (w.written_at true (in_names names)) (λ W.
        bound_by P (typed t e (in_names names)) _ (f.typed_at (in_names names)) (λ S g.
        next P (fitted (misfit t S.ty W.ty) (found t e).span) _ (fitted_at P (misfit t S.ty W.ty) (found t e).span f.at (misfit_other t S.ty W.ty))
        (bound P (evaluated (constant t.limit e names)) _ (asks.known_at names visible e (out e refl) Writes S (none_there T04 (barred e names) tt n) g) (λ x. tt)))))

    decl_stands : (d : Decl) → StandsIn d ds → Each (Marked P t) (decl_spans d) → Stands P (decl_rule t d (in_names names))
    decl_stands (dc.Type d) i h = type_decl_stands t P d (in_names names) h.1.1.0 h.1.1.1
    decl_stands (dc.Storage s) i h =
        bound P (storage_rule t s (is_var s.kind) s.ty s.init (in_names names)) _ (storage_stands s (is_var s.kind) s.ty s.init (λ e o. (dc.Storage s, (i, o))) (λ ty init. asks.bare_at s i ty init h.0) (λ x ty init W q p. asks.first_at names visible s i init x ty W q p) h.0 h.1.1.0 h.1.1.1) (λ x. tt)
    decl_stands (dc.Func f) i h = tt

    -- ---- signatures

    limit_typed_stands : (o : Option Expr) → ((e : Expr) → o ≡ Some e → IsOutside ds e) → Each (Marked P t) (maybe expr_spans o) → Stands P (limit_typed t o names)
    limit_typed_stands None out h = tt
    limit_typed_stands (Some e) out h =
        next P (none_at T04 (barred e names)) _ (asks.barred_at names visible e (out e refl)) (bound P (typed t e (with_class (in_names names) Pure)) _ ((expr_there t P e h).typed_at (with_class (in_names names) Pure)) (λ S. tt))

    limit_of_stands : (e : Expr) (l : Option Typed) → IsOutside ds e → Each (Marked P t) (expr_spans e) → limit_typed t (Some e) names ≡ Ok l → Stands P (limit_of_expr t e l names)
    limit_of_stands e None out h k = tt
    limit_of_stands e (Some S) out h k =
        let n = then_ok (none_at T04 (barred e names)) _ (Some S) k in
        let v = bind_ok (typed t e (with_class (in_names names) Pure)) (λ S. Ok (Some S)) (Some S) n.then in
        let same : v.value ≡ S = some_same v.value S (ok_ok (Some v.value) (Some S) v.then) in
        let no = none_there T04 (barred e names) tt n.first in
        let so : typed t e (with_class (in_names names) Pure) ≡ Ok S = v.first ∙ ap (λ z. Ok z) same in
        next_by P (need (is_integer S.ty) T05 (found t e).span) _ (needed P (is_integer S.ty) T05 (found t e).span (expr_there t P e h).at tt) (λ b.
        bound_by P (evaluated (constant t.limit e names)) _ (asks.known_at names visible e out Pure S no so) (λ x g.
        asks.number_at names visible e out Pure S no so (need_ok (is_integer S.ty) T05 (found t e).span tt b) x g))

    limit_stands : (o : Option Expr) (l : Option Typed) → ((e : Expr) → o ≡ Some e → IsOutside ds e) → Each (Marked P t) (maybe expr_spans o) → limit_typed t o names ≡ Ok l → Stands P (limit_rule t o l names)
    limit_stands None l out h k = tt
    limit_stands (Some e) l out h k = limit_of_stands e l (out e refl) h k

    signature_stands : (f : Func) → StandsIn (dc.Func f) ds → Each (Marked P t) (decl_spans (dc.Func f)) → Answers P (HeadStands t P) (signature_rule t names f)
    signature_stands f i h =
        let out : (e : Expr) → f.limit ≡ Some e → IsOutside ds e = λ e o. (dc.Func f, (i, o)) in
        with_by P (HeadStands t P) (params_free f.params [] names) _ (params_free_stand t P f.params [] names h.1.1.0) (λ before u.
        next_with P (HeadStands t P) (formals_free f.formals before names) _ (formals_free_stand t P f.formals before names h.1.1.1.0)
        (with_by P (HeadStands t P) (params_rule t f.params [] names) _ (params_stand t P f.params [] names h.1.1.0) (λ p a.
        with_by P (HeadStands t P) (formals_rule t f.formals p.1) _ (formals_stand t P f.formals p.1 h.1.1.1.0) (λ Ts b.
        with_by P (HeadStands t P) (result_rule t f.result p.1) _ (result_stands t P f.result p.1 h.1.1.1.1.0) (λ T c.
        with_by P (HeadStands t P) (limit_typed t f.limit names) _ (limit_typed_stands f.limit out h.1.1.1.1.1.0) (λ l d.
        next_with P (HeadStands t P) (params_are_integers t f.params p.0) _ (integers_stand t P f.params p.0 h.1.1.0)
        (with_by P (HeadStands t P) (limit_rule t f.limit l names) _ (limit_stands f.limit l out h.1.1.1.1.1.0 d) (λ limit e. (h.1.0, h.1.1.1.1.1.1)))))))))

    signatures_stand : (es : List Decl) → ((d : Decl) → StandsIn d es → StandsIn d ds) → Each (Marked P t) (all_of decl_spans es) → Answers P (AllOf (HeadStands t P)) (signatures_rule t names (funcs_of es))
    signatures_stand [] among h = tt
    signatures_stand (dc.Type d ∷ es) among h = signatures_stand es (λ d i. among d (inr i)) h.1
    signatures_stand (dc.Storage d ∷ es) among h = signatures_stand es (λ d i. among d (inr i)) h.1
    signatures_stand (dc.Func f ∷ es) among h =
        then_with P (HeadStands t P) (AllOf (HeadStands t P)) (signature_rule t names f) _ (signature_stands f (among (dc.Func f) (inl refl)) h.0) (λ x k.
        then_with P (AllOf (HeadStands t P)) (AllOf (HeadStands t P)) (signatures_rule t names (funcs_of es)) _ (signatures_stand es (λ d i. among d (inr i)) h.1) (λ xs l. (k, l)))

  -- ---- turn by turn

  FaultyStands : Judged → Type 0
  FaultyStands Waiting = Unit {0}
  FaultyStands (Fine es) = Unit {0}
  FaultyStands (Faulty f) = Has P f

  judged_stands : (r : Result (List scopes.Entry) Fault) → Stands P r → FaultyStands (judged r)
  unfolding FaultyStands
  judged_stands (Ok es) h = tt
  judged_stands (Err f) h = h

  abbrev FaultsStand : SoFar → Type 0
  FaultsStand js = EachJudged (λ d j. FaultyStands j) ds js

  start_stands : FaultsStand (all_waiting ds)
  unfolding FaultyStands
  start_stands = each_waiting (λ d j. FaultyStands j) (λ d. tt) ds

  abbrev state : ℕ → SoFar
  state n = turns t n ds (all_waiting ds)

  turns_stand : Each (Marked P t) (all_of decl_spans ds) → (n : ℕ) → FaultsStand (state n)
  turns_stand h zero = start_stands
  turns_stand h (suc n) = by (turns_stand h n) (next_after t ds n)
    where
      by : FaultsStand (state n) → Moves t ds (state n) (state (suc n)) → FaultsStand (state (suc n))
      by a (inl q) = subst FaultsStand q a
      by a (inr o) =
          let names = names_after t n ds in
          next_holds t ds (λ d j. FaultyStands j) (λ d j. FaultyStands j) (state n) (state (suc n)) o (λ d j c k. k)
          (λ d r c.
          let i = came_in d (decl_judged t d names) ds (state (suc n)) c in
          judged_stands (decl_rule t d (in_names names)) (decl_stands names (inl (n, refl)) d i (spans_in (Marked P t) ds d i h)))
          a

  faulty_stands : (j : Judged) → FaultyStands j → Stands P (faulty j)
  unfolding FaultyStands
  faulty_stands Waiting h = tt
  faulty_stands (Fine es) h = tt
  faulty_stands (Faulty f) h = h

  faults_stand : (es : List Decl) (js : SoFar) → EachJudged (λ d j. FaultyStands j) es js → Stands P (faults_rule js)
  faults_stand [] [] a = tt
  faults_stand [] (j ∷ js) a = absurd a
  faults_stand (d ∷ es) [] a = absurd a
  faults_stand (d ∷ es) (j ∷ js) a = next P (faulty j) (faults_rule js) (faulty_stands j a.0) (faults_stand es js a.1)

  -- ---- the verdict

  pub verdict_stands : (e : Entry) → At P origin → Each (Marked P t) (all_of decl_spans ds) → Stands P (verdict e ds t)
  unfolding verdict
  verdict_stands e p h =
      next P (names_rule [] (all_declared ds)) _ (names_stand t P [] (all_declared ds) (all_declared_stand t P ds h))
      (next P (cycles_rule ds ds) _ (cycles_stand t P ds ds h)
      (bound_by P (globals_rule t ds) _
      (next P (faults_rule (final t ds)) _ (faults_stand ds (final t ds) (turns_stand h (length ds))) tt) (λ names g.
      then_stands P (AllOf (HeadStands t P)) (signatures_rule t names (funcs_of ds)) _ (signatures_stand names (inr (names_same t ds names g)) ds (λ d i. i) h) (λ hs k.
      next P (overloads_rule [] hs) _ (overloads_stand t P [] hs k)
      (bound P (bodies_rule t (signatures hs) hs) _ (bodies_stand t P (signatures hs) hs k) (λ trees.
      bound P (entry_rule e (signatures hs)) _ (entry_stands t P e (signatures hs) p) (λ main. tt)))))))

  pub fault_stands : (e : Entry) (f : Fault) → At P origin → Each (Marked P t) (all_of decl_spans ds) → verdict e ds t ≡ Err f → P f
  fault_stands e f p h is = (subst (λ r. Stands P r) is (verdict_stands e p h)).has
