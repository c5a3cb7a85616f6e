-- Calls of a program's own functions and procedures with their typed trees: both choose the same subprogram, give it the same parameters and arguments, and its body
-- does the same in a frame of its own.
use Rattle.std.proofs.Common.{◌≡◌, inr, ℕ, suc, ◌+◌, ◌&&◌, Bool, true, false, cond, List, [], ◌∷◌, ◌++◌, Option, Some, None, Ok, refl, sym, ap, ◌∙◌, subst, arith, map}
use Rattle.std.specs.Prelude.{slice_get}
use Rattle.asl_syn.specs.declared.token.Span.{Span}
use Rattle.asl_syn.specs.declared.code.StaticCode.TheVariants.{T02, T09, T12, T13, T18, T20}
use Rattle.asl_syn.specs.declared.tree.Ident.{Ident}
use Rattle.asl_syn.specs.declared.tree.Expr.{Expr}
use Rattle.asl_syn.specs.declared.tree.Bitfield.TheOpen as ex
use Rattle.asl_syn.specs.declared.tree.Alternative.TheOpen as st
use Rattle.asl_syn.specs.declared.tree.Decl.{Decl}
use Rattle.asl_syn.specs.declared.tree.Func.{Func}
use Rattle.asl_rules.specs.declared.effect.Effect.{Effect}
use Rattle.asl_rules.specs.declared.effect.Effect.TheVariants.{Pure}
use Rattle.asl_rules.specs.types.Effects.{all_together, greatest, greater, at_most}
use Rattle.asl_rules.specs.Faults.{need, found_or}
use Rattle.asl_rules.specs.declarations.Routines.{Routine, routine_named}
use Rattle.asl_rules.specs.Tests.{Tests, IsRight}
use Rattle.asl_rules.specs.types.Types.{Ty, kinds, kinds_eq, substitute, Parts, no_part, part, same_kinds}
use Rattle.asl_rules.specs.types.Closed.{Assignment}
use Rattle.asl_rules.specs.declarations.Scopes.{Entry, Signature, Chosen, choose, standing_of, is_subprogram, is_absent, choose_from}
use Rattle.asl_rules.specs.runs.Trees.{Tree, Note, TreeFunc, own}
use Rattle.asl_rules.specs.expressions.Typing.{Typed, typed_as, in_class, finish}
use Rattle.asl_rules.specs.expressions.Typing.{Operand, operands, effects_of, types_of, trees_in, trees_of, trees_from, note}
use Rattle.asl_rules.specs.expressions.Calls as rules
use Rattle.asl_rules.specs.expressions.Calls.{Replacing, Called, replaced_by, widths_rule, params_fit, arguments_fit, both_fit, procedure_effect, procedure_rule, procedure_of, routine_taken, call_begun, call_tree, function_of}
use Rattle.asl_rules.specs.statements.Acting.{Done}
use Rattle.asl_rules.specs.statements.Stmts.{invoked, invoke_rule, found_stmt}
use Rattle.asl_rules.specs.expressions.Exprs.{found, typed}
use Rattle.asl_rules.specs.declarations.Programs.{body_scope, funcs_of, Head, signature_rule, signatures_rule, signatures, body_rule, bodies_rule}
use Rattle.asl_rules.specs.values.Values.{Value}
use Rattle.asl_rules.specs.types.Numbers.{outside}
use Rattle.asl_rules.specs.runs.States.{Core}
use Rattle.asl_rules.specs.private.Agreement.{types_in}
use Rattle.asl_rules.specs.runs.Plans.{Raise}
use Rattle.asl_rules.specs.runs.Forms.{call, function_gives, procedure_gives}
use Rattle.asl_rules.specs.runs.Evaluation.{Does, overload, called}
use Rattle.asl_rules.specs.private.TypedMeaning.{BareCore, Runs, list_of, call_of}
use Rattle.asl_rules.specs.private.Erasure.{erased}
use Rattle.asl_rules.proofs.basics.Inversions.{ok_ok, err_ok, bind_ok, then_ok, need_ok, found_ok}
use Rattle.asl_rules.proofs.basics.Tests.{no, some_same, none_some}
use Rattle.asl_rules.proofs.scopes.Naming.{WellNamed, well_declared, scope_good}
use Rattle.asl_laws.proofs.scopes.ScopesKept.{ruled}
use Rattle.asl_laws.proofs.scopes.WellTyped.{FormedSubs}
use Rattle.asl_rules.proofs.basics.Opening.{finish_is}
use Rattle.asl_laws.proofs.expressions.Twins.{twins_weaker}
use Rattle.asl_laws.proofs.expressions.Claims.{Here, StmtClaim, FormedResult, At, our, by_expr, by_stmt}
use Rattle.asl_laws.proofs.expressions.Standing.{below_both, second_below}
use Rattle.asl_laws.proofs.expressions.TreePlans.{Same, Out, Throws, AllGive, asked_of, operands_asked, list_from}
use Rattle.asl_laws.proofs.expressions.ExprForms.{env, program, Formed, formed}
use Rattle.asl_laws.proofs.statements.StmtForms.{here, Held, Acted, OutAct, acted, ends_here}
use Rattle.asl_laws.proofs.values.Routines.{AllIn}
use Rattle.asl_laws.proofs.expressions.CallForms.{all_in, called_same}
use Rattle.asl_rules.proofs.values.KindOf.{has_kind}
use Rattle.asl_laws.proofs.widths.TypesOver.{Never}
use Rattle.asl_laws.proofs.scopes.OverScope.{IsAtomOf, ResultOver}
use Rattle.asl_laws.proofs.scopes.NamesOutside.{NamesOutside, outside_over, outside_atoms}
use Rattle.asl_laws.proofs.scopes.BodiesOver.{signature_over, signatures_over}
use Rattle.asl_laws.proofs.calls.OwnCalls.{GivesCall, Begins, own_same}
use Rattle.asl_laws.proofs.calls.OwnFrames.{integers_of}
use Rattle.asl_laws.proofs.calls.OwnParams.{frames_good}
use Rattle.asl_laws.proofs.calls.OwnArguments.{Paired, AllFit, all_fit, AllFormed, arguments_in, in_frame, result_in}
use Rattle.asl_laws.proofs.calls.OwnChosen.{HeadIs, head_is, head_of, head_limit, KindsAre, chose}
use Rattle.asl_laws.proofs.calls.OwnBodies.{chosen_formed, body_ok}
use Rattle.asl_laws.proofs.calls.OwnBraces.{ParamsSo, ParamsAsked, params_asked, chosen_same}
use Rattle.asl_laws.proofs.calls.OwnGiven.{formals_formed, operands_formed, params_have}
use Rattle.asl_rules.specs.private.WellFormed.{WellFormed, Shaped, ShapedParts}
use Rattle.asl_laws.proofs.values.Replacing.{behind}
use Rattle.asl_rules.proofs.values.KindsByNames.{all_by_names}
use Rattle.std.specs.Str.{bytes_eq}
use Rattle.asl_laws.proofs.calls.OwnStanding.{Opens, opened_stands, chosen_at, chosen_below}
use Rattle.asl_syn.specs.declared.tree.Stmt.{Stmt}

nothing_more : (n : ℕ) → n ≡ n + 0
nothing_more n = omega arith

finish_below : (class : Effect) (span : Span) (ok : Bool) (k : Effect) (T : Ty) (make : Note → Tree) (S : Typed) →
    finish class span ok k T make ≡ Ok S → at_most k class ≡ true
finish_below class span ok k T make S h =
    let a = then_ok (need ok T13 span) (in_class class span k T make) S h in
    let b = then_ok (need (at_most k class) T12 span) (Ok (typed_as span T k make)) S a.then in
    need_ok (at_most k class) T12 span tt b.first

none_there : {A : Type 0} (o : Option A) → is_absent o ≡ true → o ≡ None
none_there None h = refl
none_there (Some x) h = no h

module _ (tests : Tests) (right : IsRight tests) (ds : List Decl) (base : List Entry) (out : NamesOutside base) (loose : Bool) (heads : List Head) (trees : List TreeFunc) (w : WellNamed base) (s : FormedSubs tests right (types_in base) (well_declared base w) (signatures heads))
    (heads_are : signatures_rule tests base (funcs_of ds) ≡ Ok heads) (bodies : bodies_rule tests (signatures heads) heads ≡ Ok trees) where
  abbrev subs : List Signature
  subs = signatures heads

  pub kinds_are : (a : Assignment) (os : List Operand) (xs : List Value) → AllIn (types_in base) a (types_of os) xs → KindsAre xs (types_of os)
  kinds_are a [] [] g = tt
  kinds_are a [] (x ∷ xs) g = absurd g
  kinds_are a (o ∷ os) [] g = absurd g
  kinds_are a (o ∷ os) (x ∷ xs) g = (has_kind a o.typed.ty x g.0.0, kinds_are a os xs g.1)

  -- what a caller gets
  abbrev Gave : Here → Assignment → Option Ty → Option Value → Option Value → Core → Type 0
  Gave H a T x y c = (x ≡ y) × (GivesCall (types_in base) a T x × At tests base subs loose H c)

  -- a call of a subprogram, in a frame with this assignment
  record CallOk (H : Here) (span : Span) (name : List ℕ) (number : ℕ) (q : Signature) (r : Replacing) (ys xs : List Value) (c : Core) : Type 0 where
    pub assignment : Assignment
    pub fit : AllFit H.present r.given
    pub same : (n : ℕ) → IsAtomOf q.params n → behind (replaced_by q.params r.given) H.present n ≡ assignment n
    pub over : ResultOver q
    pub does : Same tests right base subs loose H (Gave H assignment q.result) (called (env tests right ds base subs loose trees w) span name ys xs c) (call_of (program tests right ds base subs loose trees w) span (own number) r.places ys xs (erased c))

  abbrev head_at : (f : Func) (h : Head) → HeadIs tests base f h → Head
  head_at f h i = head_of f i.params i.formals i.result i.limit

  call_head : (H : Here) (span : Span) (name : List ℕ) (number : ℕ) (f : Func) (head : Head) (i : HeadIs tests base f head) (t : TreeFunc) (os : List Operand) (r : Replacing) (ys xs : List Value) (c : Core) → Opens tests base subs loose H number → slice_get subs number ≡ Some (head_at f head i).signature → routine_named name ≡ None →
      overload (env tests right ds base subs loose trees w) (outside c) 0 (funcs_of ds) name xs ≡ Some (record { id = number; func = f }) → signature_rule tests base f ≡ Ok (head_at f head i) → body_rule tests subs (head_at f head i) ≡ Ok t → slice_get trees number ≡ Some t →
      AllFormed tests right ds base subs loose trees w (types_of os) → AllIn (types_in base) H.present (types_of os) xs → At tests base subs loose H c → FormedResult (types_in base) i.result → kinds_eq (kinds i.formals) (kinds (types_of os)) ≡ true → Paired i.params.0 r.given →
      both_fit tests span (head_at f head i).signature r.given os (replaced_by i.params.0 r.given) ≡ Ok tt → ParamsSo H.present span f i.params.0 r ys xs c → CallOk H span name number (head_at f head i).signature r ys xs c
  call_head H span name number f head i t os r ys xs c op is_signature none found_so judged body tree_is formed_os in_os at formed_so kinds_so paired fit po =
      let h = head_at f head i in
      let av = integers_of (po.params ++ xs) in
      let by = replaced_by i.params.0 r.given in
      let over = signature_over tests base f h (outside_over base out Never) judged in
      let fits = then_ok (params_fit tests span by i.params.0 r.given) (arguments_fit tests span by i.formals os) tt fit in
      let hp = params_have tests right ds base subs loose trees w H.present av span f.params i.params r.given po.params out i.params_are po.same paired po.wide fits.first in
      let fit_all = all_fit H.present r.given po.params po.wide in
      let ha = arguments_in tests right ds base subs loose trees w H.present av span i.params.0 r.given fit_all po.same i.formals os xs kinds_so over.formals formed_os (formals_formed tests right ds base subs loose trees w f.params i.params f.formals i.formals i.params_are i.formals_are) fits.then in_os in
      let fr = frames_good tests right ds base subs loose trees w span f.name.span number f i.before i.params i.formals i.result H.scope.names H.present po.params xs c (outside_atoms base out) i.params_new i.formals_new i.params_are i.formals_are i.result_is hp ha at.agrees in
      let bw = body_ok tests right ds base subs loose trees w f h t av out (signatures_over tests base (funcs_of ds) heads (outside_over base out Never) heads_are) formed_so judged body in
      let b : Begins tests right ds base subs loose trees w H span number h bw.list r.places ys xs c = record {
        limit_is = head_limit tests right ds base subs loose trees w span f h (head_is tests base f h judged);
        tree_is = tree_is ∙ ap Some (sym bw.is);
        params = po.params;
        params_are = po.params_are;
        widths_are = po.widths_are;
        states = fr.states;
        entered_so = fr.is;
        formals = fr.formals;
        formals_are = fr.formals_are;
        erased_so = fr.erased_so;
        assignment = av;
        is_signature = is_signature;
        allowed = op.allowed h.signature is_signature;
        inside = record { agrees = fr.agrees; subs_are = refl; around_is = fr.around_is; stands = opened_stands tests base subs loose H number h.signature c op is_signature at; counted = inr (ruled tests (body_scope subs h) bw.ok.scope_good) };
        body = bw.ok;
        keeps_are = fr.keeps_are;
      } in
      record {
        assignment = av;
        fit = fit_all;
        same = po.same;
        over = over.result;
        does = own_same tests right ds base subs loose trees w H (Gave H av i.result) span name number h bw.list r.places ys xs c s none found_so b at (λ z c1 g a. (refl, (g, a)));
      }

  -- ---- the kinds of formals and arguments

  pub all_shaped : (Ts : Parts) → AllFormed tests right ds base subs loose trees w Ts → ShapedParts (types_in base) Ts
  all_shaped no_part f = tt
  all_shaped (part T Ts) f = (f.0.has_name, f.0.shaped, all_shaped Ts f.1)

  pub head_formals : (f : Func) (h : Head) → signature_rule tests base f ≡ Ok h → ShapedParts (types_in base) h.signature.formals
  head_formals f h j =
      let i = head_is tests base f h j in
      subst (λ (z : Head). ShapedParts (types_in base) z.signature.formals) i.is (all_shaped i.formals (formals_formed tests right ds base subs loose trees w f.params i.params f.formals i.formals i.params_are i.formals_are))

  chosen_formals : (n : ℕ) (gs : List Func) (hs : List Head) (name : List ℕ) (Ts : Parts) (q : Chosen) → signatures_rule tests base gs ≡ Ok hs → choose_from n name Ts (signatures hs) ≡ Some q → ShapedParts (types_in base) q.signature.formals
  chosen_formals n [] hs name Ts q h k = none_some q (subst (λ l. choose_from n name Ts (signatures l) ≡ Some q) (sym (ok_ok [] hs h)) k)
  chosen_formals n (g ∷ gs) hs name Ts q h k =
      let v = bind_ok (signature_rule tests base g) _ hs h in
      let r = bind_ok (signatures_rule tests base gs) _ hs v.then in
      by (bytes_eq v.value.signature.name name && same_kinds v.value.signature.formals Ts) v.value (choose_from (suc n) name Ts (signatures r.value)) v.first (λ o. chosen_formals (suc n) gs r.value name Ts q r.first o)
      (subst (λ l. choose_from n name Ts (signatures l) ≡ Some q) (sym (ok_ok (v.value ∷ r.value) hs r.then)) k)
    where
      by : (b : Bool) (h : Head) (o : Option Chosen) → signature_rule tests base g ≡ Ok h → (o ≡ Some q → ShapedParts (types_in base) q.signature.formals) → cond b (Some (record { number = n; signature = h.signature })) o ≡ Some q → ShapedParts (types_in base) q.signature.formals
      by true h o j next e = subst (λ (z : Chosen). ShapedParts (types_in base) z.signature.formals) (some_same (record { number = n; signature = h.signature }) q e) (head_formals g h j)
      by false h o j next e = next e

  pub chosen_kinds : (name : List ℕ) (Ts : Parts) (q : Chosen) → ShapedParts (types_in base) Ts → choose name Ts subs ≡ Some q → kinds_eq (kinds q.signature.formals) (kinds Ts) ≡ true
  chosen_kinds name Ts q t h =
      sym (all_by_names (types_in base) (well_declared base w) q.signature.formals Ts (chosen_formals 0 (funcs_of ds) heads name Ts q heads_are h) t) ∙ chosen_same 0 name Ts subs q h

  -- the subprogram that the rules chose
  call_chosen : (H : Here) (span : Span) (name : List ℕ) (ps : List Expr) (os : List Operand) (r : Replacing) (ys xs : List Value) (c : Core) (q : Chosen) → Opens tests base subs loose H q.number → routine_named name ≡ None → choose name (types_of os) subs ≡ Some q → both_fit tests span q.signature r.given os (replaced_by q.signature.params r.given) ≡ Ok tt →
      AllFormed tests right ds base subs loose trees w (types_of os) → AllIn (types_in base) H.present (types_of os) xs → At tests base subs loose H c → (k : ParamsAsked tests right base subs loose H span q.signature ps os r) → AllGive tests right base subs loose H k.asked ys → CallOk H span name q.number q.signature r ys xs c
  call_chosen H span name ps os r ys xs c q op none is fit formed_os in_os at k gives =
      let m = chose tests right ds base subs loose trees w c 0 (funcs_of ds) heads trees name xs (types_of os) q at.agrees.globals (outside_atoms base out) heads_are bodies (λ n. ap (slice_get trees) (nothing_more n)) (kinds_are H.present os xs in_os) (all_shaped (types_of os) formed_os) head_formals is in
      let i = head_is tests base m.func m.head m.judged in
      let e : (head_at m.func m.head i).signature ≡ q.signature = ap (λ (z : Head). z.signature) i.is ∙ m.signature_is in
      let is_signature : slice_get subs q.number ≡ Some (head_at m.func m.head i).signature = chosen_at name (types_of os) subs q is ∙ ap Some (sym e) in
      subst (λ (z : Signature). FormedResult (types_in base) z.result → kinds_eq (kinds z.formals) (kinds (types_of os)) ≡ true → Paired z.params r.given → both_fit tests span z r.given os (replaced_by z.params r.given) ≡ Ok tt → ParamsSo H.present span m.func z.params r ys xs c → CallOk H span name q.number z r ys xs c) e
      (λ a1 a2 a3 a4 a5. call_head H span name q.number m.func m.head i m.tree os r ys xs c op is_signature none m.found_so (subst (λ z. signature_rule tests base m.func ≡ Ok z) (sym i.is) m.judged) (subst (λ z. body_rule tests subs z ≡ Ok m.tree) (sym i.is) m.body) m.tree_is formed_os in_os at a1 a2 a3 a4 a5)
      (chosen_formed tests right ds base subs loose trees w 0 name (types_of os) subs q s is)
      (chosen_kinds name (types_of os) q (all_shaped (types_of os) formed_os) is)
      k.paired fit (k.gives m.func m.head ys xs c i m.signature_is at.agrees.globals gives in_os)

  -- a call with its operands, and what follows it
  calls_same : {A : Type 0} (H : Here) (Q : A → A → Core → Type 0) (span : Span) (i : Ident) (ps es : List Expr) (os : List Operand) (c : Core) (q : Chosen) (r : Replacing) (k : Option Value → Core → Does A) (l : Option Value → BareCore → Runs A) →
      Opens tests base subs loose H q.number → routine_named i.text ≡ None → operands (map (found tests) es) H.scope ≡ Ok os → choose i.text (types_of os) H.scope.subs ≡ Some q → widths_rule span q.signature (map (found tests) ps) os H.scope ≡ Ok r → both_fit tests span q.signature r.given os (replaced_by q.signature.params r.given) ≡ Ok tt → At tests base subs loose H c →
      ((a : Assignment) (x : Option Value) (c1 : Core) → AllFit H.present r.given →
      ((n : ℕ) → IsAtomOf q.signature.params n → behind (replaced_by q.signature.params r.given) H.present n ≡ a n) →
      ResultOver q.signature → GivesCall (types_in base) a q.signature.result x → At tests base subs loose H c1 →
      Same tests right base subs loose H Q (k x c1) (l x (erased c1))) →
      Same tests right base subs loose H Q (call ps es c (called (env tests right ds base subs loose trees w) span i.text) k) (call (list_of (trees_from r.trees)) (list_of (trees_of os)) (erased c) (call_of (program tests right ds base subs loose trees w) span (own q.number) r.places) l)
  calls_same H Q span i ps es os c q r k l op none ops is widths fit a next =
      let f : List Value → List Value → Core → Does (Option Value) = called (env tests right ds base subs loose trees w) span i.text in
      let g : List Value → List Value → BareCore → Runs (Option Value) = call_of (program tests right ds base subs loose trees w) span (own q.number) r.places in
      let is2 : choose i.text (types_of os) subs ≡ Some q = subst (λ z. choose i.text (types_of os) z ≡ Some q) a.subs_are is in
      let formed_os = operands_formed tests right ds base subs loose trees w es H.scope os (scope_good H.present base H.scope.names c w a.agrees) (subst (FormedSubs tests right (types_in base) (well_declared base w)) (sym a.subs_are) s) ops in
      let asks =
      params_asked tests right base subs loose H span q.signature ps os r (outside_atoms base out) (outside_over base out Never)
      (chosen_kinds i.text (types_of os) q (all_shaped (types_of os) formed_os) is2) (all_shaped (types_of os) formed_os) widths in
      subst (λ ts. Same tests right base subs loose H Q (call ps es c f k) (call ts (list_of (trees_of os)) (erased c) g l)) (sym (list_from r.trees))
      (subst (λ us. Same tests right base subs loose H Q (call ps es c f k) (call r.trees us (erased c) g l)) (sym (list_from (trees_in os)))
      (called_same tests right base subs loose H Q ps es r.trees (trees_in os) asks.asked (asked_of tests right base subs loose os) c f g k l asks.asks (operands_asked tests right base subs loose H.scope es os ops) a
      (λ ys xs c2 y x a2.
      let o = call_chosen H span i.text ps os r ys xs c2 q op none is2 fit formed_os (all_in tests right base subs loose H os xs x) a2 asks y in
      twins_weaker (our tests base subs loose) (Gave H o.assignment q.signature.result) (λ v z c1. Same tests right base subs loose H Q (k v c1) (l z (erased c1))) (Throws tests right base subs loose H) (λ v c1. Same tests right base subs loose H Q (Raise v c1) (Raise v (erased c1)))
      (λ v z c1 t. subst (λ u. Same tests right base subs loose H Q (k v c1) (l u (erased c1))) t.0
      (next o.assignment v c1 o.fit o.same o.over t.1.0 t.1.1))
      (λ v c1 t. (refl, refl, t)) (f ys xs c2) (g ys xs (erased c2)) o.does)))

  -- ---- a function

  gives_by : (H : Here) (span : Span) (T U : Ty) (q : Signature) (r : Replacing) (a : Assignment) (x : Option Value) (c : Core) →
      q.result ≡ Some T → substitute (replaced_by q.params r.given) T ≡ Some U → Shaped (types_in base) T → AllFit H.present r.given →
      ((n : ℕ) → IsAtomOf q.params n → behind (replaced_by q.params r.given) H.present n ≡ a n) → ResultOver q →
      GivesCall (types_in base) a (Some T) x → At tests base subs loose H c → Same tests right base subs loose H (Out tests right base subs loose H U) (function_gives span x c) (function_gives span x (erased c))
  gives_by H span T U q r a None c t u shaped fit same over g at = absurd g
  gives_by H span T U q r a (Some y) c t u shaped fit same over g at =
      (refl, (refl, (result_in (types_in base) H.present a T U y (in_frame (types_in base) H.present a q.params r.given fit same T U (over T t) shaped u) g, at)))

  pub own_formed : (H : Here) (S : Typed) (e : Expr) (span : Span) (i : Ident) (ps es : List Expr) (os : List Operand) (c : Core) → typed tests e H.scope ≡ Ok S → routine_named i.text ≡ None → is_subprogram (standing_of i.text H.scope.names) ≡ true → operands (map (found tests) es) H.scope ≡ Ok os → function_of tests span i (map (found tests) ps) os H.scope None ≡ Ok S → At tests base subs loose H c →
      Formed tests right ds base subs loose trees w H S (ex.Call span i ps es) c
  own_formed H S e span i ps es os c is_typed none stands ops h a =
      let f = bind_ok (rules.chosen span i os H.scope.subs) _ S h in
      let q = f.value.signature in
      let T = bind_ok (found_or q.result T18 span) _ S f.then in
      let t = found_ok q.result T18 span T.value T.first in
      let r = bind_ok (widths_rule span q (map (found tests) ps) os H.scope) _ S T.then in
      let by = replaced_by q.params r.value.given in
      let fit = then_ok (both_fit tests span q r.value.given os by) _ S r.then in
      let U = bind_ok (found_or (substitute by T.value) T20 span) _ S fit.then in
      let u = found_ok (substitute by T.value) T20 span U.value U.first in
      let is2 : choose i.text (types_of os) subs ≡ Some f.value =
      subst (λ z. choose i.text (types_of os) z ≡ Some f.value) a.subs_are
      (found_ok (choose i.text (types_of os) H.scope.subs) T09 span f.value f.first) in
      let formed_result : WellFormed (types_in base) T.value =
      subst (FormedResult (types_in base)) t
      (chosen_formed tests right ds base subs loose trees w 0 i.text (types_of os) subs f.value s is2) in
      let k = greater (greatest Pure (effects_of os)) q.class in
      let make : Note → Tree = call_tree (own f.value.number) r.value os in
      let ends = finish_is H.scope.class span (all_together Pure (effects_of os)) k U.value make S U.then in
      let op : Opens tests base subs loose H f.value.number = record {
        caller = by_expr H e S;
        at = refl;
        is_caller = (is_typed, (note span U.value k, r.value.places, trees_from r.value.trees, trees_of os, ap (λ (z : Typed). z.tree) (sym ends)));
        allowed = chosen_below i.text (types_of os) subs f.value H.scope.class is2
            (below_both q.class k H.scope.class (second_below (greatest Pure (effects_of os)) q.class)
            (finish_below H.scope.class span (all_together Pure (effects_of os)) k U.value make S U.then));
      } in
      formed tests right ds base subs loose trees w H S (ex.Call span i ps es) c span U.value k make ends refl
      (calls_same H (Out tests right base subs loose H U.value) span i ps es os c f.value r.value (function_gives span) (function_gives span) op none ops (found_ok (choose i.text (types_of os) H.scope.subs) T09 span f.value f.first) r.first fit.first a
      (λ av x c1 fits same over g a1. gives_by H span T.value U.value q r.value av x c1 t u formed_result.shaped fits same over
      (subst (λ z. GivesCall (types_in base) av z x) t g) a1))

  -- ---- a procedure

  ends_by : (j : StmtClaim) (span : Span) (av : Assignment) (x : Option Value) (c : Core) (d : Done) → d ≡ j.done → j.body.scope.names ≡ d.names → GivesCall (types_in base) av None x → At tests base subs loose (here tests right ds base subs loose trees w j) c →
      Same tests right base subs loose (here tests right ds base subs loose trees w j) (OutAct tests right ds base subs loose trees w j true) (procedure_gives span x c) (procedure_gives span x (erased c))
  ends_by j span av None c d e n g a = (refl, (refl, ends_here tests right ds base subs loose trees w j c d e n a))
  ends_by j span av (Some x) c d e n g a = absurd g

  invoke_by : (j : StmtClaim) (s : Stmt) (span : Span) (i : Ident) (ps es : List Expr) (os : List Operand) (c : Core) (o : Option Routine) (p : Called) → found_stmt tests s j.body ≡ Ok j.done → routine_named i.text ≡ o → operands (map (found tests) es) j.body.scope ≡ Ok os → procedure_of tests span i (map (found tests) ps) os j.body.scope o ≡ Ok p → invoked span p j.body.scope.names ≡ j.done →
      Held tests right ds base subs loose trees w j c → Acted tests right ds base subs loose trees w j true (st.Invoke span i ps es) c
  invoke_by j x span i ps es os c (Some r) p is_found name ops h e k = err_ok _ p (then_ok (routine_taken span r os) _ p h).then
  invoke_by j x span i ps es os c None p is_found name ops h e k =
      let G = j.body.scope in
      let f = bind_ok (rules.chosen span i os G.subs) _ p h in
      let q = f.value.signature in
      let n = then_ok (need (is_absent q.result) T18 span) _ p f.then in
      let none = none_there q.result (need_ok (is_absent q.result) T18 span tt n.first) in
      let r = bind_ok (widths_rule span q (map (found tests) ps) os G) _ p n.then in
      let fit = then_ok (both_fit tests span q r.value.given os (replaced_by q.params r.value.given)) _ p r.then in
      let u = then_ok (need (all_together Pure (effects_of os)) T13 span) _ p fit.then in
      let v = then_ok (need (at_most (procedure_effect os q.class) G.class) T12 span) _ p u.then in
      let m : Called = rules.called (own f.value.number) r.value os (procedure_effect os q.class) in
      let d : Done = invoked span m G.names in
      let done_is : d ≡ j.done = ap (λ z. invoked span z G.names) (ok_ok m p v.then) ∙ e in
      let op : Opens tests base subs loose (here tests right ds base subs loose trees w j) f.value.number = record {
        caller = by_stmt j x;
        at = refl;
        is_caller = (is_found, (span, r.value.places, trees_from r.value.trees, trees_of os, ap (λ (z : Done). z.act) (sym done_is)), k.body_is);
        allowed = chosen_below i.text (types_of os) subs f.value G.class
            (subst (λ z. choose i.text (types_of os) z ≡ Some f.value) k.at.subs_are
            (found_ok (choose i.text (types_of os) G.subs) T09 span f.value f.first))
            (below_both q.class (procedure_effect os q.class) G.class (second_below (greatest Pure (effects_of os)) q.class)
            (need_ok (at_most (procedure_effect os q.class) G.class) T12 span tt v.first));
      } in
      acted tests right ds base subs loose trees w j true (st.Invoke span i ps es) c d done_is refl
      (λ e2. calls_same (here tests right ds base subs loose trees w j) (OutAct tests right ds base subs loose trees w j true) span i ps es os c f.value r.value (procedure_gives span) (procedure_gives span) op name ops (found_ok (choose i.text (types_of os) G.subs) T09 span f.value f.first) r.first fit.first k.at
      (λ av x c1 fits same over g a1. ends_by j span av x c1 d e2 refl (subst (λ z. GivesCall (types_in base) av z x) none g) a1))

  pub invoke_acted : (j : StmtClaim) (s : Stmt) (span : Span) (i : Ident) (ps es : List Expr) (c : Core) → found_stmt tests s j.body ≡ Ok j.done → invoke_rule tests span i ps es j.body.scope ≡ Ok j.done → Held tests right ds base subs loose trees w j c → Acted tests right ds base subs loose trees w j true (st.Invoke span i ps es) c
  invoke_acted j x span i ps es c is_found h k =
      let G = j.body.scope in
      let p = bind_ok (procedure_rule tests span i (map (found tests) ps) (map (found tests) es) G) _ j.done h in
      let b = bind_ok (call_begun i (map (found tests) es) G) _ p.value p.first in
      let o = bind_ok (operands (map (found tests) es) G) _ b.value b.first in
      let n = then_ok (need (is_subprogram (standing_of i.text G.names)) T02 i.span) (Ok o.value) b.value o.then in
      invoke_by j x span i ps es b.value c (routine_named i.text) p.value is_found refl (o.first ∙ ap Ok (ok_ok o.value b.value n.then)) b.then (ok_ok (invoked span p.value G.names) j.done p.then) k
