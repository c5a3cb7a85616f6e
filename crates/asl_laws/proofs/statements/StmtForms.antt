-- Statements without lists with their typed trees: both do the same, and the state agrees with the names that are visible after.
use Rattle.std.proofs.Common.{◌≡◌, Bool, true, false, List, [], ◌∷◌, Option, Some, None, Ok, Result, refl, sym, ap, ◌∙◌, subst}
use Rattle.asl_syn.specs.declared.token.Span.{Span}
use Rattle.asl_syn.specs.declared.code.Fault.{Fault}
use Rattle.asl_syn.specs.declared.code.StaticCode.TheVariants.{T05, T12, T13, T18}
use Rattle.asl_syn.specs.declared.tree.Expr.{Expr}
use Rattle.asl_syn.specs.declared.tree.PrintKind.{PrintKind}
use Rattle.asl_syn.specs.declared.tree.PrintKind.TheVariants.{Print, PrintLine}
use Rattle.asl_syn.specs.declared.tree.PrintItem.{PrintItem}
use Rattle.asl_syn.specs.declared.tree.PrintItem.TheVariants.{Verbatim, Shown}
use Rattle.asl_syn.specs.declared.tree.Alternative.TheOpen as st
use Rattle.asl_syn.specs.declared.tree.Decl.{Decl}
use Rattle.asl_syn.specs.Layers.{StmtLayer}
use Rattle.asl_rules.specs.declared.effect.Effect.{Effect}
use Rattle.asl_rules.specs.declared.effect.Effect.TheVariants.{Pure, Writes, Readonly}
use Rattle.asl_rules.specs.Faults.{◌>>◌, need, fault_of}
use Rattle.asl_rules.specs.Tests.{Tests, IsRight}
use Rattle.asl_rules.specs.types.Types.{Ty, is_boolean, misfit}
use Rattle.asl_rules.specs.types.Closed.{Assignment, type_with}
use Rattle.asl_rules.specs.types.Effects.{greater, greatest, all_together, at_most, lesser}
use Rattle.asl_rules.specs.declarations.Scopes.{Scope, Entry, Signature}
use Rattle.asl_rules.specs.private.WellFormed.{WellFormed}
use Rattle.asl_rules.specs.runs.Trees as tree
use Rattle.asl_rules.specs.runs.Trees.{Act, TreeFunc, act_at}
use Rattle.asl_rules.specs.expressions.Typing.{Typed, Operand, operand as operand_at}
use Rattle.asl_rules.specs.expressions.Exprs.{found, typed}
use Rattle.asl_rules.specs.statements.Acting.{Done, done, ended, operand_of, condition, reading_scope, fits}
use Rattle.asl_rules.specs.statements.Stmts.{assert_rule, returned, return_rule, items_rule, printed, text_first, value_first, Printed, print_rule}
use Rattle.asl_rules.specs.values.Values.{Value, has, Exit, Returned}
use Rattle.asl_rules.specs.runs.States.{Core}
use Rattle.asl_rules.specs.private.Belonging.{InType}
use Rattle.asl_rules.specs.private.Agreement.{types_in, Agrees, SameOn}
use Rattle.asl_rules.specs.runs.Plans.{Ret, Put, choose, lift}
use Rattle.asl_rules.specs.values.Operators.{truth}
use Rattle.asl_rules.specs.report.Texts.{value_text}
use Rattle.asl_rules.specs.runs.StatementForms.{done_normal, asserted, print_items, end_print}
use Rattle.asl_rules.specs.runs.Evaluation.{Does, stmt_node, item_in, stmt_layer_span}
use Rattle.asl_rules.specs.private.TypedMeaning.{Runs, act_node, item_of}
use Rattle.asl_rules.specs.private.Erasure.{erased}
use Rattle.asl_rules.proofs.basics.Inversions.{ok_ok, err_ok, bind_ok, then_ok, need_ok, fitted_ok}
use Rattle.asl_laws.proofs.scopes.ScopesKept.{GoodScope}
use Rattle.asl_rules.proofs.values.Keeping.{satisfying_keeps}
use Rattle.asl_rules.proofs.scopes.Naming.{WellNamed, well_declared, scope_good}
use Rattle.asl_laws.proofs.scopes.WellTyped.{FormedSubs, typed_formed}
use Rattle.asl_laws.proofs.expressions.Claims.{Here, StmtClaim, GivesResult, FormedResult, Handles, Bound, result_at, At, Ended, Left, Ends}
use Rattle.asl_laws.proofs.expressions.Standing.{lesser_below, stands_lesser, thrown_lesser}
use Rattle.asl_laws.proofs.expressions.TreePlans.{Same, operand, operand_in, truth_same, append_nil}
use Rattle.asl_laws.proofs.expressions.ExprForms.{env, program}
use Rattle.asl_laws.specs.Soundness.{IsBodyOf}

pub operand_typed : (t : Tests) (e : Expr) (G : Scope) (o : Operand) → operand_of t e G ≡ Ok o → typed t e G ≡ Ok o.typed
operand_typed t e G o h = let s = bind_ok (typed t e G) _ o h in s.first ∙ ap Ok (ap (λ (x : Operand). x.typed) (ok_ok (operand_at (found t e).span s.value) o s.then))

-- the end of a rule
pub ended_is : (class : Effect) (span : Span) (ok : Bool) (k : Effect) (names : List Entry) (act : Act) (d : Done) → ended class span ok k names act ≡ Ok d → done names k act ≡ d
ended_is class span ok k names act d h =
    let a = then_ok (need ok T13 span) (need (at_most k class) T12 span >> Ok (done names k act)) d h in
    let b = then_ok (need (at_most k class) T12 span) (Ok (done names k act)) d a.then in
    ok_ok (done names k act) d b.then

-- its effect is allowed
pub ended_below : (class : Effect) (span : Span) (ok : Bool) (k : Effect) (names : List Entry) (act : Act) (d : Done) →
    ended class span ok k names act ≡ Ok d → at_most k class ≡ true
ended_below class span ok k names act d h =
    let a = then_ok (need ok T13 span) (need (at_most k class) T12 span >> Ok (done names k act)) d h in
    let b = then_ok (need (at_most k class) T12 span) (Ok (done names k act)) d a.then in
    need_ok (at_most k class) T12 span tt b.first

some_in : {A : Type 0} → A → Option A → A
some_in x (Some y) = y
some_in x None = x

same_some : {A : Type 0} (x y : A) → Some x ≡ Some y → x ≡ y
unfolding some_in
same_some x y h = ap (some_in x) h

module _ (tests : Tests) (right : IsRight tests) (ds : List Decl) (base : List Entry) (subs : List Signature) (loose : Bool) (funcs : List TreeFunc) (w : WellNamed base) where
  -- where a statement stands
  abbrev pub here : StmtClaim → Here
  here j = record { scope = j.body.scope; present = j.present; around = j.around }

  -- what holds where it begins
  pub record Held (j : StmtClaim) (c : Core) : Type 0 where
    pub at : At tests base subs loose (here j) c
    pub subs_formed : FormedSubs tests right (types_in base) (well_declared base w) subs
    pub formed : FormedResult (types_in base) j.body.result
    pub result_is : (b : Assignment) → SameOn j.body.scope.names j.present b → result_at b j.body.result ≡ result_at j.params j.body.result
    pub handles : j.body.handles ≡ true → Handles j.around.handled
    pub body_is : Bound tests base subs loose (IsBodyOf subs j.body j.around.live)
    pub scope_good : GoodScope tests j.body.scope

  abbrev pub OutAct : StmtClaim → Bool → Exit → Exit → Core → Type 0
  OutAct j b x y c = (x ≡ y) × Ends tests base subs loose j b x c

  abbrev pub ActSame : StmtClaim → Bool → Does Exit → Runs Exit → Type 0
  ActSame j b p q = Same tests right base subs loose (here j) (OutAct j b) p q

  -- one form: where it stands, and what it does
  pub record Acted (j : StmtClaim) (b : Bool) (layer : StmtLayer) (c : Core) : Type 0 where
    pub at : stmt_layer_span layer ≡ act_at j.done.act
    pub does : ActSame j b (stmt_node (env tests right ds base subs loose funcs w) layer c) (act_node (program tests right ds base subs loose funcs w) j.done.act (erased c))

  pub acted : (j : StmtClaim) (b : Bool) (layer : StmtLayer) (c : Core) (d : Done) → d ≡ j.done → stmt_layer_span layer ≡ act_at d.act → (d ≡ j.done → ActSame j b (stmt_node (env tests right ds base subs loose funcs w) layer c) (act_node (program tests right ds base subs loose funcs w) d.act (erased c))) → Acted j b layer c
  acted j b layer c d e at does = record {
    at = at ∙ ap (λ (z : Done). act_at z.act) e;
    does = subst (λ (z : Done). ActSame j b (stmt_node (env tests right ds base subs loose funcs w) layer c) (act_node (program tests right ds base subs loose funcs w) z.act (erased c))) e (does e);
  }

  -- an end where the visible names are the same
  pub ends_here : (j : StmtClaim) (c : Core) (d : Done) → d ≡ j.done → j.body.scope.names ≡ d.names → At tests base subs loose (here j) c → Ended tests base subs loose j true c
  ends_here j c d e n a = record { reached = refl; later = j.present; same = λ m l. refl; agrees = subst (λ ns. Agrees base ns j.present c) (n ∙ ap (λ (z : Done). z.names) e) a.agrees; around_is = a.around_is }

  -- ---- each form

  pub pass_acted : (j : StmtClaim) (span : Span) (c : Core) → (let r : Result Done Fault = Ok (done j.body.scope.names Pure (tree.Pass span)) in r) ≡ Ok j.done → Held j c → Acted j true (st.Pass span) c
  pass_acted j span c h k = let d = done j.body.scope.names Pure (tree.Pass span) in acted j true (st.Pass span) c d (ok_ok d j.done h) refl (λ e. (refl, (refl, ends_here j c d e refl k.at)))

  pub unreachable_acted : (j : StmtClaim) (b : Bool) (span : Span) (c : Core) → (let r : Result Done Fault = Ok (done j.body.scope.names Pure (tree.Unreachable span)) in r) ≡ Ok j.done → Held j c → Acted j b (st.Unreachable span) c
  unreachable_acted j b span c h k = let d = done j.body.scope.names Pure (tree.Unreachable span) in acted j b (st.Unreachable span) c d (ok_ok d j.done h) refl (λ e. (refl, refl, k.at.agrees.globals))

  -- the class of a scope is nothing to a state
  abbrev pub in_class : Here → Scope → Here
  in_class H G = record { scope = G; present = H.present; around = H.around }

  assert_by : (j : StmtClaim) (span : Span) (c : Core) (b : Bool) (d : Done) → d ≡ j.done → j.body.scope.names ≡ d.names → At tests base subs loose (here j) c → ActSame j true (choose b (done_normal c) (asserted span c)) (choose b (done_normal (erased c)) (asserted span (erased c)))
  assert_by j span c true d e n a = (refl, (refl, ends_here j c d e n a))
  assert_by j span c false d e n a = (refl, refl, a.agrees.globals)

  pub assert_acted : (j : StmtClaim) (span : Span) (e : Expr) (c : Core) → assert_rule tests span e j.body.scope ≡ Ok j.done → Held j c → Acted j true (st.Assert span e) c
  assert_acted j span e c h k =
      let G = j.body.scope in
      let o = bind_ok (operand_of tests e (reading_scope G)) _ j.done h in
      let b = then_ok (condition o.value) _ j.done o.then in
      let S = o.value.typed in
      let d = done G.names S.effect (tree.Assert span S.tree) in
      acted j true (st.Assert span e) c d (ended_is G.class span true S.effect G.names (tree.Assert span S.tree) j.done b.then) refl
      (λ i. operand_in tests right base subs loose (here j) (in_class (here j) (reading_scope G)) (OutAct j true) e S c (λ x c1. lift (truth span x) c1 (λ t. choose t (done_normal c1) (asserted span c1))) (λ x c1. lift (truth span x) c1 (λ t. choose t (done_normal c1) (asserted span c1))) (operand_typed tests e (reading_scope G) o.value o.first) (record { agrees = k.at.agrees; subs_are = k.at.subs_are; around_is = k.at.around_is; stands = stands_lesser tests base subs loose (lesser G.class Readonly) G.class j.around (lesser_below G.class) k.at.stands; counted = k.at.counted })
      (λ x c1 o.
      thrown_lesser tests base subs loose (lesser G.class Readonly) G.class G.names j.present j.around x c1 (lesser_below G.class) o)
      (λ x c1 v a1. truth_same tests right base subs loose (here j) (OutAct j true) span x S.ty c1 (λ t. choose t (done_normal c1) (asserted span c1)) (λ t. choose t (done_normal (erased c1)) (asserted span (erased c1))) (need_ok (is_boolean S.ty) T05 o.value.span tt b.first) v
      (λ t. assert_by j span c1 t d i refl (record { agrees = a1.agrees; subs_are = a1.subs_are; around_is = a1.around_is; stands = k.at.stands; counted = k.at.counted }))))

  -- ---- exits

  left_here : (j : StmtClaim) (o : Option Value) (c : Core) → GivesResult (types_in base) j.params j.body.result o → At tests base subs loose (here j) c → Left tests base subs loose j o c
  left_here j o c g a = record { gives = g; more = []; later = j.present; agrees = subst (λ ns. Agrees base ns j.present c) (sym (append_nil j.body.scope.names)) a.agrees; around_is = a.around_is }

  none_by : (j : StmtClaim) (span : Span) (c : Core) (T : Option Ty) → j.body.result ≡ T → return_rule tests span None j.body.scope T ≡ Ok j.done → Held j c → Acted j false (st.Return span None) c
  none_by j span c (Some T) q h k = err_ok (fault_of T18 span) j.done h
  none_by j span c None q h k =
      let d = done j.body.scope.names Pure (tree.Return span None) in
      acted j false (st.Return span None) c d (ok_ok d j.done h) refl (λ e. (refl, (refl, left_here j None c (subst (λ U. GivesResult (types_in base) j.params U None) (sym q) tt) k.at)))

  -- what is returned belongs to the result, at the parameters of the body
  gives_result : (j : StmtClaim) (T : Ty) (S : Typed) (x : Value) (c : Core) → j.body.result ≡ Some T → WellFormed (types_in base) S.ty → misfit tests S.ty T ≡ None → InType (types_in base) j.present x S.ty → Held j c → GivesResult (types_in base) j.params j.body.result (Some x)
  gives_result j T S x c q s m i k =
      let t : WellFormed (types_in base) T = subst (FormedResult (types_in base)) q k.formed in
      let same : type_with T j.present ≡ type_with T j.params = same_some (type_with T j.present) (type_with T j.params) (sym (ap (result_at j.present) q) ∙ k.result_is j.present (λ n l. refl) ∙ ap (result_at j.params) q) in
      subst (λ U. GivesResult (types_in base) j.params U (Some x)) (sym q)
      (subst (λ V. has x V ≡ true) same (satisfying_keeps j.present tests right (types_in base) (well_declared base w) S.ty T x s t i.1 m i.0), i.1)

  value_by : (j : StmtClaim) (span : Span) (e : Expr) (o : Operand) (c : Core) (T : Option Ty) → j.body.result ≡ T → operand_of tests e j.body.scope ≡ Ok o → returned tests j.body.scope.class span T o j.body.scope.names ≡ Ok j.done → Held j c → Acted j false (st.Return span (Some e)) c
  value_by j span e o c None q g h k = err_ok (fault_of T18 span) j.done h
  value_by j span e o c (Some T) q g h k =
      let G = j.body.scope in
      let f = then_ok (fits tests T o) _ j.done h in
      let S = o.typed in
      let d = done G.names S.effect (tree.Return span (Some S.tree)) in
      let t = operand_typed tests e G o g in
      let s = typed_formed tests right (types_in base) (well_declared base w) e G S (scope_good j.present base G.names c w k.at.agrees) (subst (FormedSubs tests right (types_in base) (well_declared base w)) (sym k.at.subs_are) k.subs_formed) t in
      acted j false (st.Return span (Some e)) c d (ended_is G.class span true S.effect G.names (tree.Return span (Some S.tree)) j.done f.then) refl
      (λ i. operand tests right base subs loose (here j) (OutAct j false) e S c (λ x c1. Ret (Returned (Some x)) c1) (λ x c1. Ret (Returned (Some x)) c1) t k.at
      (λ x c1 v a1. (refl, (refl, left_here j (Some x) c1 (gives_result j T S x c q s (fitted_ok (misfit tests S.ty T) o.span tt f.first) v k) a1))))

  pub return_acted : (j : StmtClaim) (span : Span) (o : Option Expr) (c : Core) → return_rule tests span o j.body.scope j.body.result ≡ Ok j.done → Held j c → Acted j false (st.Return span o) c
  return_acted j span None c h k = none_by j span c j.body.result refl h k
  return_acted j span (Some e) c h k = let o = bind_ok (operand_of tests e j.body.scope) _ j.done h in value_by j span e o.value c j.body.result refl o.first o.then k

  -- ---- printing

  end_same : (j : StmtClaim) (kind : PrintKind) (d : Done) (c : Core) → d ≡ j.done → j.body.scope.names ≡ d.names → At tests base subs loose (here j) c → ActSame j true (end_print kind c) (end_print kind (erased c))
  end_same j Print d c e n a = (refl, (refl, ends_here j c d e n a))
  end_same j PrintLine d c e n a = (refl, (refl, (refl, ends_here j c d e n a)))

  items_same : (j : StmtClaim) (kind : PrintKind) (is : List PrintItem) (p : Printed) (d : Done) (c : Core) → d ≡ j.done → j.body.scope.names ≡ d.names → items_rule tests is j.body.scope ≡ Ok p → At tests base subs loose (here j) c → ActSame j true (print_items item_in kind is c) (print_items item_of kind p.items (erased c))
  items_same j kind [] p d c e n h a = subst (λ (z : Printed). ActSame j true (print_items item_in kind [] c) (print_items item_of kind z.items (erased c))) (ok_ok (printed [] []) p h) (end_same j kind d c e n a)
  items_same j kind (Verbatim span text ∷ is) p d c e n h a =
      let q = bind_ok (items_rule tests is j.body.scope) _ p h in
      subst (λ (z : Printed). ActSame j true (print_items item_in kind (Verbatim span text ∷ is) c) (print_items item_of kind z.items (erased c))) (ok_ok (text_first text q.value) p q.then)
      (refl, items_same j kind is q.value d c e n q.first a)
  items_same j kind (Shown f ∷ is) p d c e n h a =
      let s = bind_ok (typed tests f j.body.scope) _ p h in
      let q = bind_ok (items_rule tests is j.body.scope) _ p s.then in
      subst (λ (z : Printed). ActSame j true (print_items item_in kind (Shown f ∷ is) c) (print_items item_of kind z.items (erased c))) (ok_ok (value_first s.value q.value) p q.then)
      (operand tests right base subs loose (here j) (OutAct j true) f s.value c (λ x c1. Put (value_text x) (print_items item_in kind is c1)) (λ x c1. Put (value_text x) (print_items item_of kind q.value.items c1)) s.first a (λ x c1 v a1. (refl, items_same j kind is q.value d c1 e n q.first a1)))

  pub print_acted : (j : StmtClaim) (span : Span) (kind : PrintKind) (is : List PrintItem) (c : Core) → print_rule tests span kind is j.body.scope ≡ Ok j.done → Held j c → Acted j true (st.Print span kind is) c
  print_acted j span kind is c h k =
      let G = j.body.scope in
      let p = bind_ok (items_rule tests is G) _ j.done h in
      let n = greater (greatest Pure p.value.effects) Writes in
      let d = done G.names n (tree.Print span kind p.value.items) in
      acted j true (st.Print span kind is) c d (ended_is G.class span (all_together Pure p.value.effects) n G.names (tree.Print span kind p.value.items) j.done p.then) refl
      (λ e. items_same j kind is p.value d c e refl p.first k.at)
