-- Bodies of subprograms with their typed trees: what a body gives, with the bitfields of its result, and the caller's frame again at its end.
use Rattle.std.proofs.Common.{◌≡◌, ℕ, pos, Bool, true, false, not, List, [], ◌++◌, map, Option, Some, None, Ok, refl, sym, ap, subst, inr}
use Rattle.std.specs.Prelude.{if◌then◌else◌, slice_get}
use Rattle.asl_syn.specs.declared.token.Span.{Span}
use Rattle.asl_syn.specs.declared.tree.Decl.{Decl}
use Rattle.asl_syn.specs.declared.tree.Func.{Func}
use Rattle.asl_syn.specs.declared.code.DynCode.TheVariants.{D11}
use Rattle.asl_rules.specs.declared.effect.Effect.TheVariants.{Pure, Writes}
use Rattle.asl_rules.specs.types.Effects.{at_most}
use Rattle.asl_rules.specs.Tests.{Tests, IsRight}
use Rattle.asl_rules.specs.types.Types.{Ty}
use Rattle.asl_rules.specs.types.Closed.{Assignment, Closed, type_with}
use Rattle.asl_rules.specs.declarations.Scopes.{Entry, Signature}
use Rattle.asl_rules.specs.runs.Trees as tree
use Rattle.asl_rules.specs.runs.Trees.{TreeFunc, Acts, own}
use Rattle.asl_rules.specs.statements.Acting.{Listed, done, in_order}
use Rattle.asl_rules.specs.statements.Stmts.{found_stmt}
use Rattle.asl_rules.specs.statements.Falling.{falls_through}
use Rattle.asl_rules.specs.declarations.Programs.{Head, body_scope, body_of, may_end, types_in as list_types, tree_func, funcs_of}
use Rattle.asl_rules.specs.values.Values.{Value, has, Normal, Returned}
use Rattle.asl_rules.specs.types.Views.{viewed}
use Rattle.asl_rules.specs.runs.States.{Core, restored, entered}
use Rattle.asl_rules.specs.private.Belonging.{InType}
use Rattle.asl_rules.specs.private.Agreement.{types_in, GlobalsMatch, Raised, Agrees, SameOn}
use Rattle.asl_rules.specs.runs.Plans.{Faulted, Ret, Raise, Stop, Good, choose, lift}
use Rattle.asl_rules.specs.runs.Pures.{◌>>=◌, known, there}
use Rattle.asl_rules.specs.values.Operators.{less}
use Rattle.asl_rules.specs.runs.Forms.{Keeps, activations, unless_full, returned, at_end, in_frame}
use Rattle.asl_rules.specs.runs.StatementForms as plan
use Rattle.asl_rules.specs.declarations.Routines.{routine_named}
use Rattle.asl_rules.specs.types.Numbers.{present, outside}
use Rattle.asl_rules.specs.runs.Evaluation.{Does, Numbered, Entering, under_written, result_at as keeps_at, entering, run_body, run_with, params_of, limit_of, overload, call_one, call_named, called}
use Rattle.asl_rules.specs.private.TypedMeaning as bare
use Rattle.asl_rules.specs.private.TypedMeaning.{BareCore, Runs, acts_of, result_seen, formals_seen, call_of}
use Rattle.asl_rules.specs.private.ByPlace.{seen_as}
use Rattle.asl_rules.specs.private.Erasure.{erased}
use Rattle.asl_rules.proofs.basics.Tests.{no}
use Rattle.asl_rules.proofs.values.Viewing.{viewed_has, viewed_twice}
use Rattle.asl_rules.proofs.values.Bare.{viewed_built}
use Rattle.asl_rules.proofs.values.Constructs.{seen_is}
use Rattle.asl_rules.proofs.scopes.Naming.{WellNamed, well_declared}
use Rattle.asl_laws.proofs.scopes.WellTyped.{FormedSubs}
use Rattle.asl_laws.proofs.expressions.Twins.{Twins}
use Rattle.asl_laws.proofs.expressions.Claims.{Here, StmtClaim, GivesResult, FormedResult, result_at, At, our, Around, around_of, Bound}
use Rattle.asl_laws.proofs.expressions.Standing.{below_both}
use Rattle.asl_laws.proofs.expressions.TreePlans.{Same, Throws, append_nil}
use Rattle.asl_laws.proofs.expressions.ExprForms.{env, program}
use Rattle.asl_laws.proofs.statements.ListForms.{list_same}
use Rattle.asl_laws.proofs.scopes.ScopesKept.{GoodScope}
use Rattle.asl_laws.specs.Soundness.{IsBodyOf}

-- what a run keeps of a result, where its type is this one at an assignment
abbrev pub seen_by : Span → Assignment → Option Ty → Keeps
seen_by span a None = None
seen_by span a (Some T) = Some (under_written span (Some (type_with T a)))

-- what a call gives
abbrev pub GivesCall : (List ℕ → Option Ty) → Assignment → Option Ty → Option Value → Type 0
GivesCall d a None None = Unit {0}
GivesCall d a None (Some x) = ⊥
GivesCall d a (Some T) None = ⊥
GivesCall d a (Some T) (Some x) = InType d a x T

kept_so : (span : Span) (C : Closed) (x : Value) → has x C ≡ true → returned span (Some (under_written span (Some C))) (Some x) ≡ Good (Some (viewed C x))
kept_so span C x h = ap (λ b. there span (if b then Some (viewed C x) else None) >>= λ y. Good (Some y)) h

ends_never : {A : Type 0} (b : Bool) → not b ≡ true → b ≡ true → A
ends_never true h k = no h
ends_never false h k = no k

-- the caller's names are there again
pub restored_agrees : (base names : List Entry) (a : Assignment) (c c1 : Core) → Agrees base names a c → GlobalsMatch base c1.globals → Agrees base names a (restored c c1)
restored_agrees base names a c c1 k g = record { locals = k.locals; names_are = k.names_are; fresh = k.fresh; plain = k.plain; frame = k.frame; globals = g; handled = k.handled; callers = k.callers }

module _ (tests : Tests) (right : IsRight tests) (ds : List Decl) (base : List Entry) (subs : List Signature) (loose : Bool) (funcs : List TreeFunc) (w : WellNamed base) where
  back_at : (outer : Bool) (H : Here) (c c1 : Core) → At tests base subs outer H c → GlobalsMatch base c1.globals → At tests base subs outer H (restored c c1)
  back_at outer H c c1 a g = record { agrees = restored_agrees base H.scope.names H.present c c1 a.agrees g; subs_are = a.subs_are; around_is = a.around_is; stands = a.stands; counted = a.counted }

  back_over : (outer : Bool) (H : Here) (x : Value) (c c1 : Core) → At tests base subs outer H c → Raised (types_in base) x → at_most Writes H.scope.class ≡ true → GlobalsMatch base c1.globals → Throws tests right base subs loose H x (restored c c1)
  back_over outer H x c c1 a r k g = record { raised = r; writes = k; more = []; later = H.present; same = λ n l. refl; agrees = subst (λ ns. Agrees base ns H.present (restored c c1)) (sym (append_nil H.scope.names)) (back_at outer H c c1 a g).agrees; around_is = a.around_is }

  -- what a caller gets, who may stand outside bodies
  abbrev pub Gets : Bool → Here → (Option Value → Option Value → Core → Type 0) → Assignment → Option Ty → Type 0
  Gets outer H Q a T = (r : Option Value) (c : Core) → GivesCall (types_in base) a T r → At tests base subs outer H c → Q r r c

  returned_same : (outer : Bool) (H : Here) (Q : Option Value → Option Value → Core → Type 0) (T : Option Ty) (a : Assignment) (span : Span) (c c1 : Core) (o : Option Value) → GivesResult (types_in base) a T o → At tests base subs outer H c → GlobalsMatch base c1.globals → Gets outer H Q a T →
      Same tests right base subs loose H Q (at_end span (seen_by span a T) (restored c) (Returned o) c1) (at_end span (result_seen T) (bare.restored (erased c)) (Returned o) (erased c1))
  returned_same outer H Q None a span c c1 None g m i q = (refl, q None (restored c c1) tt (back_at outer H c c1 m i))
  returned_same outer H Q None a span c c1 (Some x) g m i q = absurd g
  returned_same outer H Q (Some T) a span c c1 None g m i q = absurd g
  returned_same outer H Q (Some T) a span c c1 (Some x) g m i q =
      let C = type_with T a in
      subst (λ r. Same tests right base subs loose H Q (lift r c1 (λ y. Ret y (restored c c1))) (Ret (Some (seen_as T x)) (bare.restored (erased c) (erased c1)))) (sym (kept_so span C x g.0))
      (subst (λ y. Same tests right base subs loose H Q (Ret (Some (viewed C x)) (restored c c1)) (Ret (Some y) (bare.restored (erased c) (erased c1)))) (sym (seen_is a T x))
      (refl, q (Some (viewed C x)) (restored c c1) (viewed_has C x g.0, viewed_built (types_in base) C x g.1, viewed_twice C x) (back_at outer H c c1 m i)))

  normal_same : (outer : Bool) (H : Here) (Q : Option Value → Option Value → Core → Type 0) (T : Option Ty) (f : Func) (a : Assignment) (span : Span) (c c1 : Core) → may_end T f ≡ true → falls_through f.body ≡ true → At tests base subs outer H c → GlobalsMatch base c1.globals → Gets outer H Q a T →
      Same tests right base subs loose H Q (at_end span (seen_by span a T) (restored c) Normal c1) (at_end span (result_seen T) (bare.restored (erased c)) Normal (erased c1))
  normal_same outer H Q None f a span c c1 e k m i q = (refl, q None (restored c c1) tt (back_at outer H c c1 m i))
  normal_same outer H Q (Some T) f a span c c1 e k m i q = ends_never (falls_through f.body) e k

  abbrev in_body : Head → Assignment → Around → Here
  in_body h a r = record { scope = body_scope subs h; present = a; around = r }

  -- what the rules say of a body
  pub record BodyOk (h : Head) (l : Listed) (a : Assignment) : Type 0 where
    pub judged : in_order (map (found_stmt tests) h.func.body) Pure (body_of subs h) ≡ Ok l
    pub ends : may_end h.signature.result h.func ≡ true
    pub formed : FormedResult (types_in base) h.signature.result
    pub scope_good : GoodScope tests (body_scope subs h)
    pub result_is : (b : Assignment) → SameOn h.names a b → result_at b h.signature.result ≡ result_at a h.signature.result

  -- a body, in a frame of its own
  pub body_same : (outer : Bool) (H : Here) (Q : Option Value → Option Value → Core → Type 0) (h : Head) (l : Listed) (a : Assignment) (r : Around) (span : Span) (c inner : Core) → FormedSubs tests right (types_in base) (well_declared base w) subs → BodyOk h l a → at_most h.signature.class H.scope.class ≡ true → Bound tests base subs loose (IsBodyOf subs (body_of subs h) r.live) → At tests base subs loose (in_body h a r) inner → At tests base subs outer H c → Gets outer H Q a h.signature.result →
      Same tests right base subs loose H Q (in_frame span (seen_by span a h.signature.result) (restored c) (plan.in_order h.func.body inner)) (in_frame span (result_seen h.signature.result) (bare.restored (erased c)) (plan.in_order (acts_of l.acts) (erased inner)))
  body_same outer H Q h l a r span c inner s ok below b m n q =
      let T = h.signature.result in
      let j : StmtClaim = record { body = body_of subs h; done = done h.names Pure (tree.Pass span); present = a; params = a; around = r } in
      list_same tests right ds base subs loose funcs w j Pure l
      (λ x y c1. Twins (our tests base subs loose) Q (Throws tests right base subs loose H) (at_end span (seen_by span a T) (restored c) x c1) (at_end span (result_seen T) (bare.restored (erased c)) y (erased c1)))
      (λ x c1. Twins (our tests base subs loose) Q (Throws tests right base subs loose H) (Raise x (restored c c1)) (Raise x (bare.restored (erased c) (erased c1))))
      h.func.body inner ok.judged (record { at = m; subs_formed = s; formed = ok.formed; result_is = ok.result_is; handles = λ k. no k; scope_good = ok.scope_good; body_is = b })
      (λ c1 e f. normal_same outer H Q T h.func a span c c1 ok.ends f n e.agrees.globals q)
      (λ o c1 e. returned_same outer H Q T a span c c1 o e.gives n e.agrees.globals q)
      (λ x c1 e. (refl, refl, back_over outer H x c c1 n e.raised (below_both Writes h.signature.class H.scope.class e.writes below) e.agrees.globals))

  -- ---- a call

  -- what is there before the body: the subprogram that was chosen, whose limit is known, its parameters, and the states in which it begins
  pub record Begins (H : Here) (span : Span) (id : ℕ) (h : Head) (l : Listed) (places : List ℕ) (ys xs : List Value) (c : Core) : Type 0 where
    pub limit_is : limit_of (env tests right ds base subs loose funcs w) span h.func.limit ≡ Good h.signature.limit
    pub tree_is : slice_get funcs id ≡ Some (tree_func h l.acts)
    pub params : List Value
    pub params_are : params_of span (outside c) h.func ys xs ≡ Good params
    pub widths_are : bare.params_of span places ys xs ≡ Good params
    pub states : Entering
    pub entered_so : entering (env tests right ds base subs loose funcs w) span id h.func params xs c ≡ Good states
    pub formals : List Value
    pub formals_are : formals_seen span (list_types h.signature.formals) xs ≡ Good formals
    pub erased_so : erased states.inner ≡ bare.entered id (params ++ formals) (erased c)
    pub assignment : Assignment
    pub is_signature : slice_get subs id ≡ Some h.signature
    pub allowed : at_most h.signature.class H.scope.class ≡ true
    pub inside : At tests base subs loose (in_body h assignment (around_of (entered id c))) states.inner
    pub body : BodyOk h l assignment
    pub keeps_are : keeps_at (env tests right ds base subs loose funcs w) h.func.name.span (present states.params) h.func.result ≡ seen_by h.func.name.span assignment h.signature.result

  full_same : (H : Here) (Q : Option Value → Option Value → Core → Type 0) (b : Bool) (span : Span) (c : Core) (p : Does (Option Value)) (r : Runs (Option Value)) → At tests base subs loose H c → Same tests right base subs loose H Q p r → Same tests right base subs loose H Q (choose b p (Stop (Faulted D11 span) c)) (choose b r (Stop (Faulted D11 span) (erased c)))
  full_same H Q true span c p r a s = s
  full_same H Q false span c p r a s = (refl, refl, a.agrees.globals)

  run_same : (H : Here) (Q : Option Value → Option Value → Core → Type 0) (span : Span) (id : ℕ) (h : Head) (l : Listed) (places : List ℕ) (ys xs : List Value) (c : Core) → FormedSubs tests right (types_in base) (well_declared base w) subs → (b : Begins H span id h l places ys xs c) → At tests base subs loose H c → Gets loose H Q b.assignment h.signature.result →
      Same tests right base subs loose H Q (run_with (env tests right ds base subs loose funcs w) span id h.func b.params xs c) (bare.run_with span id (tree_func h l.acts) b.params xs (erased c))
  run_same H Q span id h l places ys xs c s b a q =
      let f = tree_func h l.acts in
      let at = h.func.name.span in
      let after : List Value → Runs (Option Value) = λ zs. in_frame at (result_seen h.signature.result) (bare.restored (erased c)) (plan.in_order (acts_of l.acts) (bare.entered id (b.params ++ zs) (erased c))) in
      subst (λ r. Same tests right base subs loose H Q (lift r c (run_body (env tests right ds base subs loose funcs w) h.func c)) (bare.run_with span id f b.params xs (erased c))) (sym b.entered_so)
      (subst (λ k. Same tests right base subs loose H Q (in_frame at k (restored c) (plan.in_order h.func.body b.states.inner)) (bare.run_with span id f b.params xs (erased c))) (sym b.keeps_are)
      (subst (λ r. Same tests right base subs loose H Q (in_frame at (seen_by at b.assignment h.signature.result) (restored c) (plan.in_order h.func.body b.states.inner)) (lift r (erased c) after)) (sym b.formals_are)
      (subst (λ d. Same tests right base subs loose H Q (in_frame at (seen_by at b.assignment h.signature.result) (restored c) (plan.in_order h.func.body b.states.inner)) (in_frame at (result_seen h.signature.result) (bare.restored (erased c)) (plan.in_order (acts_of l.acts) d))) b.erased_so
      (body_same loose H Q h l b.assignment (around_of (entered id c)) at c b.states.inner s b.body b.allowed (inr (h.signature, b.is_signature, refl, refl)) b.inside a q))))

  -- the chosen subprogram, and what it gives
  pub own_same : (H : Here) (Q : Option Value → Option Value → Core → Type 0) (span : Span) (name : List ℕ) (id : ℕ) (h : Head) (l : Listed) (places : List ℕ) (ys xs : List Value) (c : Core) → FormedSubs tests right (types_in base) (well_declared base w) subs → routine_named name ≡ None →
      overload (env tests right ds base subs loose funcs w) (outside c) 0 (funcs_of ds) name xs ≡ Some (record { id = id; func = h.func }) → (b : Begins H span id h l places ys xs c) → At tests base subs loose H c → Gets loose H Q b.assignment h.signature.result →
      Same tests right base subs loose H Q (called (env tests right ds base subs loose funcs w) span name ys xs c) (call_of (program tests right ds base subs loose funcs w) span (own id) places ys xs (erased c))
  own_same H Q span name id h l places ys xs c s e o b a q =
      let en = env tests right ds base subs loose funcs w in
      let f = tree_func h l.acts in
      let right_side : Runs (Option Value) = call_of (program tests right ds base subs loose funcs w) span (own id) places ys xs (erased c) in
      let run_it : List Value → Does (Option Value) = λ qs. run_with en span id h.func qs xs c in
      let bare_it : List Value → Runs (Option Value) = λ qs. bare.run_with span id f qs xs (erased c) in
      let num : Numbered = record { id = id; func = h.func } in
      subst (λ r. Same tests right base subs loose H Q (call_named en span name ys xs c r) right_side) (sym e)
      (subst (λ z. Same tests right base subs loose H Q (lift (known span z) c (λ m. call_one en span ys xs m c)) right_side) (sym o)
      (subst (λ z. Same tests right base subs loose H Q (lift z c (λ limit. unless_full span id c.live limit (lift (params_of span (outside c) h.func ys xs) c run_it) c)) right_side) (sym b.limit_is)
      (subst (λ z. Same tests right base subs loose H Q (unless_full span id c.live h.signature.limit (lift (params_of span (outside c) h.func ys xs) c run_it) c) (bare.called span id places ys xs (erased c) z)) (sym b.tree_is)
      (full_same H Q (less (pos (activations id c.live)) h.signature.limit) span c (lift (params_of span (outside c) h.func ys xs) c run_it) (lift (bare.params_of span places ys xs) (erased c) bare_it) a
      (subst (λ z. Same tests right base subs loose H Q (lift z c run_it) (lift (bare.params_of span places ys xs) (erased c) bare_it)) (sym b.params_are)
      (subst (λ z. Same tests right base subs loose H Q (run_it b.params) (lift z (erased c) bare_it)) (sym b.widths_are)
      (run_same H Q span id h l places ys xs c s b a q)))))))
