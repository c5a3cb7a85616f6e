-- A program that is accepted stays accepted under a wider limit, as the same program.
use Rattle.std.proofs.Common.{◌≡◌, ℕ, zero, suc, ◌≤◌, Bool, true, false, inl, inr, List, [], ◌∷◌, ◌++◌, length, map, Option, Some, None}
use Rattle.std.proofs.Common.{Ok, Err, refl, sym, ap, ap₂, subst, ◌∙◌}
use Rattle.std.specs.Prelude.{Result}
use Rattle.asl_syn.specs.declared.token.Span.{Span}
use Rattle.asl_syn.specs.declared.code.Fault.{Fault}
use Rattle.asl_syn.specs.declared.code.StaticCode.TheVariants.{T02, T04, T05, T25}
use Rattle.asl_syn.specs.declared.tree.Expr.{Expr}
use Rattle.asl_syn.specs.declared.tree.TypeExpr.{TypeExpr}
use Rattle.asl_syn.specs.declared.tree.Ident.{Ident}
use Rattle.asl_syn.specs.declared.tree.Formal.{Formal}
use Rattle.asl_syn.specs.declared.tree.Param.{Param as WrittenParam}
use Rattle.asl_syn.specs.declared.tree.Func.{Func}
use Rattle.asl_syn.specs.declared.tree.TypeDef.{TypeDef}
use Rattle.asl_syn.specs.declared.tree.TypeDef.TheVariants as td
use Rattle.asl_syn.specs.declared.tree.TypeDecl.{TypeDecl}
use Rattle.asl_syn.specs.declared.tree.StorageDecl.{StorageDecl}
use Rattle.asl_syn.specs.declared.tree.Decl.{Decl}
use Rattle.asl_syn.specs.declared.tree.Decl.TheVariants as dc
use Rattle.asl_rules.specs.declared.effect.Effect.TheVariants.{Pure as NoEffect}
use Rattle.asl_rules.specs.declared.entry.Entry.{Entry as Asked}
use Rattle.asl_rules.specs.Faults.{◌>>=◌, ◌>>◌, need, none_at, found_or, fitted}
use Rattle.asl_rules.specs.Tests.{Tests}
use Rattle.asl_rules.specs.types.Types.{Ty, structure, misfit, is_integer}
use Rattle.asl_rules.specs.types.Closed.{closed}
use Rattle.asl_rules.specs.values.Values.{Value}
use Rattle.asl_rules.specs.types.Written.{first_value}
use Rattle.asl_rules.specs.declarations.Names.{names_rule, all_declared}
use Rattle.asl_rules.specs.declarations.Uses.{cycles_rule}
use Rattle.asl_rules.specs.declarations.Scopes.{Scope, Entry, Signature, Param, type_of_name, with_class}
use Rattle.asl_rules.specs.declarations.Scopes.{next_atom}
use Rattle.asl_rules.specs.expressions.Typing.{Typed}
use Rattle.asl_rules.specs.expressions.Exprs.{typed, written, found, found_type}
use Rattle.asl_rules.specs.runs.Plans.{Faulted, Stuck, Pure, Good, Bad}
use Rattle.asl_rules.specs.declarations.Constants.{constant}
use Rattle.asl_rules.specs.declarations.Barred.{barred}
use Rattle.asl_rules.specs.statements.Acting.{in_order}
use Rattle.asl_rules.specs.statements.Stmts.{found_stmt}
use Rattle.asl_rules.specs.declarations.Declarations.{in_names, fields_written, def_rule, is_none, reached, supertype_rule, type_decl_rule}
use Rattle.asl_rules.specs.declarations.Declarations.{evaluated, known, first_in, storage_rule, is_var, decl_rule}
use Rattle.asl_rules.specs.declarations.Turns.{Judged, Waiting, Fine, Faulty, judged, SoFar, names_so_far, next_turn, judged_at, one_turn, turns}
use Rattle.asl_rules.specs.declarations.Turns.{all_waiting, final, faulty, faults_rule, names_of_program, globals_rule}
use Rattle.asl_rules.specs.declarations.Programs.{environment, funcs_of, params_free, formals_free, param_written, param_entry, params_rule, read_verdict, default_decls, final_decls}
use Rattle.asl_rules.specs.declarations.Programs.{formals_rule, result_rule, limit_typed, type_is_integer, params_are_integers, as_number}
use Rattle.asl_rules.specs.declarations.Programs.{limit_of_expr, limit_rule, Head, signature_rule, signatures_rule, signatures}
use Rattle.asl_rules.specs.declarations.Programs.{overloads_rule, body_of, body_rule, bodies_rule, Accepted, verdict}
use Rattle.asl_rules.proofs.basics.Inversions.{then_ok, bind_ok}
use Rattle.asl_rules.proofs.verdict.Turning.{Stays as StaysJudged, Later, later_self, later_then, turn_later, turns_keep}
use Rattle.asl_laws.proofs.wider.Steps.{Wider, wider_good}
use Rattle.asl_laws.proofs.wider.Pures.{first_wider}
use Rattle.asl_laws.proofs.wider.Known.{known_wider}
use Rattle.asl_laws.proofs.wider.Stays.{Stays, stays_same, stays_equal, stays_err, stays_ok, stays_bind, stays_step, stays_then}
use Rattle.asl_laws.proofs.wider.Stays.{stays_after, all_pairs}
use Rattle.asl_laws.proofs.wider.Rows.{wide_tests, misfit_same, fit_same}
use Rattle.asl_laws.proofs.wider.Trees.{expr_stays, type_stays}
use Rattle.asl_laws.proofs.wider.Stmts.{StmtStays, order_stays, stmt_stays, written_stays}
use Rattle.asl_syn.specs.declared.read.ReadDecl.{ReadDecl}
use Rattle.asl_laws.proofs.verdict.ReadVerdict.{steps_of, of_steps}

-- ---- what is evaluated before any run

evaluated_stays : (r s : Pure Value) → Wider r s → Stays (evaluated r) (evaluated s)
evaluated_stays (Good x) s h = stays_equal _ _ (ap evaluated (wider_good (Good x) s x h refl))
evaluated_stays (Bad (Faulted code span)) s h = stays_err _ _
evaluated_stays (Bad (Stuck mistake span)) s h = stays_err _ _

-- where the first is a value
stays_if : {X : Type 0} (r s : Result X Fault) → ((x : X) → r ≡ Ok x → s ≡ Ok x) → Stays r s
unfolding Stays
stays_if (Ok x) s h = h x refl
stays_if (Err e) s h = tt

-- ---- faults of declarations

abbrev IsFaulty : Judged → Type 0
IsFaulty Waiting = ⊥
IsFaulty (Fine es) = ⊥
IsFaulty (Faulty f) = Unit {0}

abbrev Fair : Judged → Type 0
Fair j = IsFaulty j → ⊥

abbrev AllFair : SoFar → Type 0
AllFair [] = Unit {0}
AllFair (j ∷ js) = Fair j × AllFair js

-- what is faulty stays so
fair_before : (js ks : SoFar) → Later js ks → AllFair ks → AllFair js
fair_before [] [] l h = tt
fair_before [] (k ∷ ks) l h = absurd l
fair_before (j ∷ js) [] l h = absurd l
fair_before (j ∷ js) (k ∷ ks) l h = (by l.0, fair_before js ks l.1 h.1)
  where
    by : StaysJudged j k → Fair j
    by (inl w) = λ x. subst IsFaulty w x
    by (inr q) = λ x. h.0 (subst IsFaulty q x)

turns_later : (t : Tests) (ds : List Decl) (k : ℕ) (js : SoFar) → Later js (turns t k ds js)
turns_later t ds k js = turns_keep t ds (Later js) (λ ls ms o l. later_then js ls ms l (turn_later t ds ls ds ls ms o)) k js (later_self js)

faulty_fair : (j : Judged) → faulty j ≡ Ok tt → Fair j
faulty_fair Waiting h = λ x. x
faulty_fair (Fine es) h = λ x. x
faulty_fair (Faulty f) h = λ x. err_ok h
  where
    err_ok : {f : Fault} → (let r : Result (Unit {0}) Fault = Err f in r) ≡ Ok tt → ⊥
    err_ok h = cc

fair_all : (js : SoFar) → faults_rule js ≡ Ok tt → AllFair js
fair_all [] h = tt
fair_all (j ∷ js) h = let p = then_ok (faulty j) (faults_rule js) tt h in (faulty_fair j p.first, fair_all js p.then)

-- a judgement that isn't faulty stays
judged_same : (r s : Result (List Entry) Fault) → Stays r s → Fair (judged r) → judged s ≡ judged r
unfolding Stays
judged_same (Ok es) s h k = ap judged h
judged_same (Err e) s h k = absurd (k tt)

module _ (t : Tests) (m : ℕ) (le : t.limit ≤ m) where
  abbrev u : Tests
  u = wide_tests t m le

  -- ---- declarations

  fields_stay : (fs : List Formal) (G : Scope) → Stays (fields_written t fs G) (fields_written u fs G)
  fields_stay [] G = stays_same _
  fields_stay (f ∷ fs) G = stays_bind (written t f.ty true G) (written u f.ty true G) _ _ (written_stays t m le f.ty true G)
      (λ W. stays_bind (fields_written t fs G) (fields_written u fs G) _ _ (fields_stay fs G) (λ Fs. stays_same _))

  def_stays : (name : List ℕ) (d : TypeDef) (G : Scope) → Stays (def_rule t name d G) (def_rule u name d G)
  def_stays name (td.Alias w) G = stays_bind (written t w true G) (written u w true G) _ _ (written_stays t m le w true G)
      (λ W. stays_same (Ok W.ty))
  def_stays name (td.Labels span is) G = stays_same _
  def_stays name (td.Record span fs) G = stays_bind (fields_written t fs G) (fields_written u fs G) _ _ (fields_stay fs G)
      (λ Fs. stays_same _)
  def_stays name (td.Exception span fs) G = stays_bind (fields_written t fs G) (fields_written u fs G) _ _ (fields_stay fs G)
      (λ Fs. stays_same _)

  supertype_stays : (o : Option Ident) (T : Ty) (G : Scope) → Stays (supertype_rule t o T G) (supertype_rule u o T G)
  supertype_stays None T G = stays_same _
  supertype_stays (Some i) T G = stays_step (found_or (type_of_name i.text G.names) T02 i.span) _ _
      (λ U. stays_equal _ _ (ap (λ o. need (is_none o) T25 i.span >> Ok (reached i.text U))
      (misfit_same t m le (structure T) (structure U))))

  type_decl_stays : (d : TypeDecl) (G : Scope) → Stays (type_decl_rule t d G) (type_decl_rule u d G)
  type_decl_stays d G = stays_bind (def_rule t d.name.text d.def G) (def_rule u d.name.text d.def G) _ _ (def_stays d.name.text d.def G)
      (λ T. stays_bind (supertype_rule t d.supertype T G) (supertype_rule u d.supertype T G) _ _ (supertype_stays d.supertype T G)
      (λ ss. stays_same _))

  known_stays : (e : Expr) (G : Scope) → Stays (known t e G) (known u e G)
  known_stays e G = evaluated_stays (constant t.limit e G.names) (constant m e G.names)
      (known_wider (record { decls = []; names = G.names; limit = t.limit }) m le e)

  first_stays : (at : Span) (T : Ty) → Stays (first_in t at T) (first_in u at T)
  first_stays at T = stays_bind (evaluated (first_value t.limit at (closed T))) (evaluated (first_value m at (closed T))) _ _
      (evaluated_stays (first_value t.limit at (closed T)) (first_value m at (closed T)) (first_wider t.limit m le at (closed T)))
      (λ x. stays_same _)

  storage_stays : (d : StorageDecl) (k : Bool) (w : Option TypeExpr) (o : Option Expr) (G : Scope) →
      Stays (storage_rule t d k w o G) (storage_rule u d k w o G)
  storage_stays d k None None G = stays_same _
  storage_stays d k (Some w) None G = stays_bind (written t w true G) (written u w true G) _ _ (written_stays t m le w true G) (λ W.
      subst (λ at. Stays (first_in t (found_type t w).span W.ty) (first_in u at W.ty)) (sym (type_stays t m le w).span_same)
      (first_stays (found_type t w).span W.ty))
  storage_stays d k None (Some e) G = stays_after (none_at T04 (barred e G.names)) _ _
      (stays_bind (typed t e G) (typed u e G) _ _ ((expr_stays t m le e).typed_stays G)
      (λ S. stays_bind (known t e G) (known u e G) _ _ (known_stays e G) (λ x. stays_same _)))
  storage_stays d k (Some w) (Some e) G =
      stays_after (none_at T04 (barred e G.names)) _ _
      (stays_bind (written t w true G) (written u w true G) _ _ (written_stays t m le w true G)
      (λ W. stays_bind (typed t e G) (typed u e G) _ _ ((expr_stays t m le e).typed_stays G) (λ S.
      stays_then (fitted (misfit t S.ty W.ty) (found t e).span) (fitted (misfit u S.ty W.ty) (found u e).span) _ _
      (stays_equal _ _ (fit_same t m le S.ty W.ty (found u e).span
      ∙ ap (λ at. fitted (misfit t S.ty W.ty) at) (expr_stays t m le e).span_same))
      (stays_bind (known t e G) (known u e G) _ _ (known_stays e G) (λ x. stays_same _)))))

  decl_stays : (d : Decl) (G : Scope) → Stays (decl_rule t d G) (decl_rule u d G)
  decl_stays (dc.Type d) G = type_decl_stays d G
  decl_stays (dc.Storage d) G = stays_bind (storage_rule t d (is_var d.kind) d.ty d.init G) (storage_rule u d (is_var d.kind) d.ty d.init G)
      _ _ (storage_stays d (is_var d.kind) d.ty d.init G) (λ s. stays_same _)
  decl_stays (dc.Func f) G = stays_same _

  -- ---- turns: where no declaration is faulty at the end, none was before, and each is judged alike

  module _ (ds : List Decl) where
    one_same : (n : ℕ) (es : List Decl) (js : SoFar) (names : List Entry) → AllFair (judged_at t n es js names) →
        judged_at u n es js names ≡ judged_at t n es js names
    one_same n [] js names h = refl
    one_same n (d ∷ es) [] names h = refl
    one_same zero (d ∷ es) (j ∷ js) names h =
        ap (λ k. k ∷ js) (judged_same (decl_rule t d (in_names names)) (decl_rule u d (in_names names)) (decl_stays d (in_names names)) h.0)
    one_same (suc n) (d ∷ es) (j ∷ js) names h = ap (λ ks. j ∷ ks) (one_same n es js names h.1)

    turns_same : (k : ℕ) (js : SoFar) → AllFair (turns t k ds js) → turns u k ds js ≡ turns t k ds js
    turns_same zero js h = refl
    turns_same (suc k) js h = by (next_turn ds js) h (turns_same k)
      where
        by : (o : Option ℕ) → AllFair (one_turn t ds js (turns t k ds) o) →
            ((ks : SoFar) → AllFair (turns t k ds ks) → turns u k ds ks ≡ turns t k ds ks) →
            one_turn u ds js (turns u k ds) o ≡ one_turn t ds js (turns t k ds) o
        by None h next = refl
        by (Some n) h next =
            let names = names_so_far ds js in
            let ks = judged_at t n ds js names in
            let fair = fair_before ks (turns t k ds ks) (turns_later t ds k ks) h in
            ap (turns u k ds) (one_same n ds js names fair) ∙ next ks h

    finals_same : faults_rule (final t ds) ≡ Ok tt → final u ds ≡ final t ds
    finals_same h = turns_same (length ds) (all_waiting ds) (fair_all (final t ds) h)

    pub names_same : faults_rule (final t ds) ≡ Ok tt → names_of_program u ds ≡ names_of_program t ds
    names_same h = ap (names_so_far ds) (finals_same h)

    globals_stay : Stays (globals_rule t ds) (globals_rule u ds)
    globals_stay = stays_if (globals_rule t ds) (globals_rule u ds) (λ names h.
        let p = then_ok (faults_rule (final t ds)) (Ok (names_of_program t ds)) names h in
        ap (λ js. faults_rule js >> Ok (names_so_far ds js)) (finals_same p.first) ∙ h)

  -- ---- signatures

  param_stays : (o : Option TypeExpr) (names : List Entry) → Stays (param_written t o names) (param_written u o names)
  param_stays None names = stays_same _
  param_stays (Some w) names = stays_bind (written t w false (in_names names)) (written u w false (in_names names)) _ _
      (written_stays t m le w false (in_names names)) (λ W. stays_same (Ok (Some W.ty)))

  params_stay : (ps : List WrittenParam) (before : List Param) (names : List Entry) →
      Stays (params_rule t ps before names) (params_rule u ps before names)
  params_stay [] before names = stays_same _
  params_stay (p ∷ ps) before names = stays_bind (param_written t p.ty names) (param_written u p.ty names) _ _ (param_stays p.ty names)
      (λ T. params_stay ps (before ++ record { atom = next_atom names; ty = T } ∷ [])
      (names ++ param_entry p.name.text T (next_atom names) ∷ []))

  formals_stay : (fs : List Formal) (names : List Entry) → Stays (formals_rule t fs names) (formals_rule u fs names)
  formals_stay [] names = stays_same _
  formals_stay (f ∷ fs) names = stays_bind (written t f.ty false (in_names names)) (written u f.ty false (in_names names)) _ _
      (written_stays t m le f.ty false (in_names names))
      (λ W. stays_bind (formals_rule t fs names) (formals_rule u fs names) _ _ (formals_stay fs names) (λ Ts. stays_same _))

  result_stays : (o : Option TypeExpr) (names : List Entry) → Stays (result_rule t o names) (result_rule u o names)
  result_stays None names = stays_same _
  result_stays (Some w) names = stays_bind (written t w false (in_names names)) (written u w false (in_names names)) _ _
      (written_stays t m le w false (in_names names)) (λ W. stays_same (Ok (Some W.ty)))

  limit_typed_stays : (o : Option Expr) (globals : List Entry) → Stays (limit_typed t o globals) (limit_typed u o globals)
  limit_typed_stays None globals = stays_same _
  limit_typed_stays (Some e) globals = stays_after (none_at T04 (barred e globals)) _ _
      (stays_bind (typed t e (with_class (in_names globals) NoEffect)) (typed u e (with_class (in_names globals) NoEffect)) _ _
      ((expr_stays t m le e).typed_stays (with_class (in_names globals) NoEffect)) (λ S. stays_same _))

  integer_same : (o : Option TypeExpr) (T : Option Ty) → type_is_integer u o T ≡ type_is_integer t o T
  integer_same None T = refl
  integer_same (Some w) None = refl
  integer_same (Some w) (Some T) = ap (λ at. need (is_integer T) T05 at) (type_stays t m le w).span_same

  integers_same : (ps : List WrittenParam) (qs : List Param) → params_are_integers u ps qs ≡ params_are_integers t ps qs
  integers_same [] qs = refl
  integers_same (p ∷ ps) [] = refl
  integers_same (p ∷ ps) (q ∷ qs) = ap₂ (λ r s. r >> s) (integer_same p.ty q.ty) (integers_same ps qs)

  limit_expr_stays : (e : Expr) (S : Option Typed) (globals : List Entry) →
      Stays (limit_of_expr t e S globals) (limit_of_expr u e S globals)
  limit_expr_stays e None globals = stays_same _
  limit_expr_stays e (Some S) globals =
      subst (λ at. Stays (limit_of_expr t e (Some S) globals)
      (need (is_integer S.ty) T05 at >> (known u e (in_names globals) >>= λ x. as_number at x))) (sym (expr_stays t m le e).span_same)
      (stays_after (need (is_integer S.ty) T05 (found t e).span) _ _
      (stays_bind (known t e (in_names globals)) (known u e (in_names globals)) _ _ (known_stays e (in_names globals))
      (λ x. stays_same _)))

  limit_stays : (o : Option Expr) (S : Option Typed) (globals : List Entry) → Stays (limit_rule t o S globals) (limit_rule u o S globals)
  limit_stays None S globals = stays_same _
  limit_stays (Some e) S globals = limit_expr_stays e S globals

  signature_stays : (globals : List Entry) (f : Func) → Stays (signature_rule t globals f) (signature_rule u globals f)
  signature_stays globals f =
      stays_step (params_free f.params [] globals) _ _ (λ before. stays_after (formals_free f.formals before globals) _ _
      (stays_bind (params_rule t f.params [] globals) (params_rule u f.params [] globals) _ _ (params_stay f.params [] globals) (λ p.
      stays_bind (formals_rule t f.formals p.1) (formals_rule u f.formals p.1) _ _ (formals_stay f.formals p.1) (λ Ts.
      stays_bind (result_rule t f.result p.1) (result_rule u f.result p.1) _ _ (result_stays f.result p.1) (λ T.
      stays_bind (limit_typed t f.limit globals) (limit_typed u f.limit globals) _ _ (limit_typed_stays f.limit globals) (λ l.
      stays_then (params_are_integers t f.params p.0) (params_are_integers u f.params p.0) _ _
      (stays_equal _ _ (integers_same f.params p.0))
      (stays_bind (limit_rule t f.limit l globals) (limit_rule u f.limit l globals) _ _ (limit_stays f.limit l globals)
      (λ n. stays_same _))))))))

  signatures_stay : (globals : List Entry) (fs : List Func) → Stays (signatures_rule t globals fs) (signatures_rule u globals fs)
  signatures_stay globals [] = stays_same _
  signatures_stay globals (f ∷ fs) = stays_bind (signature_rule t globals f) (signature_rule u globals f) _ _ (signature_stays globals f)
      (λ h. stays_bind (signatures_rule t globals fs) (signatures_rule u globals fs) _ _ (signatures_stay globals fs) (λ hs. stays_same _))

  -- ---- bodies

  body_stays : (subs : List Signature) (h : Head) → Stays (body_rule t subs h) (body_rule u subs h)
  body_stays subs h =
      stays_bind (in_order (map (found_stmt t) h.func.body) NoEffect (body_of subs h))
      (in_order (map (found_stmt u) h.func.body) NoEffect (body_of subs h)) _ _
      (order_stays (map (found_stmt t) h.func.body) (map (found_stmt u) h.func.body) NoEffect (body_of subs h)
      (all_pairs StmtStays (found_stmt t) (found_stmt u) h.func.body (stmt_stays t m le))) (λ l. stays_same _)

  bodies_stay : (subs : List Signature) (hs : List Head) → Stays (bodies_rule t subs hs) (bodies_rule u subs hs)
  bodies_stay subs [] = stays_same _
  bodies_stay subs (h ∷ hs) = stays_bind (body_rule t subs h) (body_rule u subs h) _ _ (body_stays subs h)
      (λ f. stays_bind (bodies_rule t subs hs) (bodies_rule u subs hs) _ _ (bodies_stay subs hs) (λ fs. stays_same _))

  -- ---- the verdict

  verdict_stays : (e : Asked) (ds : List Decl) → Stays (verdict e ds t) (verdict e ds u)
  unfolding verdict
  verdict_stays e ds =
      stays_after (names_rule [] (all_declared ds)) _ _ (stays_after (cycles_rule ds ds) _ _
      (stays_bind (globals_rule t ds) (globals_rule u ds) _ _ (globals_stay ds) (λ names.
      stays_bind (signatures_rule t names (funcs_of ds)) (signatures_rule u names (funcs_of ds)) _ _ (signatures_stay names (funcs_of ds))
      (λ hs.
      stays_after (overloads_rule [] hs) _ _
      (stays_bind (bodies_rule t (signatures hs) hs) (bodies_rule u (signatures hs) hs) _ _ (bodies_stay (signatures hs) hs)
      (λ trees. stays_same _))))))

  pub same_verdict : (e : Asked) (ds : List Decl) (a : Accepted) → verdict e ds t ≡ Ok a → verdict e ds u ≡ Ok a
  same_verdict e ds a h = stays_ok (verdict e ds t) (verdict e ds u) a (verdict_stays e ds) h

  pub same_read_verdict : (e : Asked) (ds : List ReadDecl) (a : Accepted) → read_verdict e ds t ≡ Ok a → read_verdict e ds u ≡ Ok a
  same_read_verdict e ds a h =
      let s = steps_of e ds t a h in
      of_steps e ds u a (record {
        matched = s.matched;
        first = s.first;
        default_is = same_verdict e (default_decls ds) s.first s.default_is;
        final_is = same_verdict e (final_decls ds) a s.final_is;
      })

  -- what the names outside bodies stand for in a run
  pub same_names : (e : Asked) (ds : List Decl) (a : Accepted) → verdict e ds t ≡ Ok a → names_of_program u ds ≡ names_of_program t ds
  unfolding verdict
  same_names e ds a h =
      let p = then_ok (names_rule [] (all_declared ds)) _ a h in
      let c = then_ok (cycles_rule ds ds) _ a p.then in
      let n = bind_ok (globals_rule t ds) _ a c.then in
      names_same ds (then_ok (faults_rule (final t ds)) (Ok (names_of_program t ds)) n.value n.first).first

  pub same_environment : (e : Asked) (ds : List Decl) (a : Accepted) → verdict e ds t ≡ Ok a →
      environment u ds ≡ record (environment t ds) { limit = m }
  same_environment e ds a h = ap (λ ns. record { decls = ds; names = ns; limit = m }) (same_names e ds a h)
