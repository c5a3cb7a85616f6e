-- `try` with its typed tree: its list, and the catchers of what that throws, of which the first that takes it runs.
use Rattle.std.proofs.Common.{◌≡◌, Bool, true, false, not, ◌||◌, List, [], ◌∷◌, ◌++◌, length, map, Option, Some, None, Ok, refl, sym, ap, ◌∙◌, subst}
use Rattle.std.specs.Prelude.{option_map}
use Rattle.asl_syn.specs.declared.token.Span.{Span}
use Rattle.asl_syn.specs.declared.code.StaticCode.TheVariants.{T01, T02, T21}
use Rattle.asl_syn.specs.declared.tree.Ident.{Ident}
use Rattle.asl_syn.specs.declared.tree.Stmt.{Stmt}
use Rattle.asl_syn.specs.declared.tree.Decl.{Decl}
use Rattle.asl_syn.specs.declared.tree.Alternative.{Alternative}
use Rattle.asl_syn.specs.declared.tree.Catcher.{Catcher, out-Catcher}
use Rattle.asl_syn.specs.declared.tree.ElseIf.{ElseIf}
use Rattle.asl_syn.specs.declared.tree.Otherwise.{Otherwise, out-Otherwise}
use Rattle.asl_syn.specs.declared.tree.Alternative.TheOpen as st
use Rattle.asl_syn.specs.declared.tree.Alternative.TheFolds.{fold_out-Catcher, fold_out-Otherwise, map-Catcher, map-Otherwise}
use Rattle.asl_rules.specs.Faults.{need, found_or}
use Rattle.asl_rules.specs.Tests.{Tests, IsRight}
use Rattle.asl_rules.specs.types.Types.{Ty}
use Rattle.asl_rules.specs.types.Closed.{Assignment, closed, type_with}
use Rattle.asl_rules.specs.private.WellFormed.{WellFormed, Fixed}
use Rattle.asl_rules.specs.private.Belonging.{InType}
use Rattle.asl_rules.specs.types.Views.{viewed}
use Rattle.asl_rules.specs.declared.effect.Effect.TheVariants.{Writes}
use Rattle.asl_rules.specs.types.Effects.{at_most, greater}
use Rattle.asl_rules.specs.declarations.Scopes.{Body, Entry, Signature, body_names, handling, fixed, is_free, is_absent, type_of_name}
use Rattle.asl_rules.specs.runs.Trees as tree
use Rattle.asl_rules.specs.runs.Trees.{TreeFunc, Act}
use Rattle.asl_rules.specs.statements.Acting.{Done, done, Listed, block, FoundStmt, FoundOtherwise, LastListed, last_block}
use Rattle.asl_rules.specs.statements.Branches as branches
use Rattle.asl_rules.specs.statements.Branches.{FoundAlternative, FoundBranch, FoundCatcher, TypedCatcher, is_exception, with_caught, catcher_rule, catcher_trees, try_rule}
use Rattle.asl_rules.specs.statements.Stmts.{found_stmt, stmt_layer_rule, branch_found, alternative_found, catcher_found, otherwise_found}
use Rattle.asl_rules.specs.statements.Falling.{falls, falls_through, all_fall, any_falls, falls_layer, alternative_falls, catcher_falls, branch_falls, otherwise_falls}
use Rattle.asl_rules.specs.values.Values.{Value, has, Exit}
use Rattle.asl_rules.specs.runs.States.{Core}
use Rattle.asl_rules.specs.private.Agreement.{no_atoms, types_in, Raised}
use Rattle.asl_rules.specs.runs.Plans.{Ret, Raise, choose}
use Rattle.asl_rules.specs.runs.StatementForms as plan
use Rattle.asl_rules.specs.runs.StatementForms.{scope, is_caught, catch_list}
use Rattle.asl_rules.specs.runs.ByNames.{types_among}
use Rattle.asl_rules.specs.runs.Evaluation.{Does, frames, caught_as, catch_layer, catch_in, otherwise_layer, otherwise_in}
use Rattle.asl_rules.specs.private.TypedMeaning as bare
use Rattle.asl_rules.specs.private.TypedMeaning.{BareCore, Runs, in_bare, itself, acts_of, catches_of, last_of}
use Rattle.asl_rules.specs.private.Erasure.{erased, values_of}
use Rattle.asl_rules.proofs.basics.Inversions.{ok_ok, bind_ok, then_ok, need_ok, found_ok}
use Rattle.asl_rules.proofs.basics.Tests.{or_first, or_second}
use Rattle.asl_laws.proofs.statements.AllStmts.{found_alternative, found_catcher, found_branch, found_otherwise, alternative_fallen, catcher_fallen, branch_fallen, otherwise_fallen}
use Rattle.asl_rules.proofs.scopes.Naming.{WellNamed, well_declared}
use Rattle.asl_rules.proofs.scopes.Lookups.{same_types}
use Rattle.asl_laws.proofs.expressions.Twins.{twins_weaker}
use Rattle.asl_laws.proofs.expressions.Claims.{StmtClaim, our, Around}
use Rattle.asl_laws.proofs.expressions.TreePlans.{Throws}
use Rattle.asl_laws.proofs.expressions.ExprForms.{env}
use Rattle.asl_laws.proofs.scopes.ScopesKept.{GoodScope, caught_scope}
use Rattle.asl_laws.proofs.statements.StmtForms.{here, Held, OutAct, ActSame, Acted, acted, ended_is}
use Rattle.asl_laws.proofs.statements.ListForms.{block_same, cut_agrees, values_length, erased_cut, fall_same}
use Rattle.asl_laws.proofs.statements.BranchForms.{held_later, brought_back}
use Rattle.asl_laws.proofs.statements.CatchForms.{caught_in, handled_agrees, over_here, inside, handling_same, named_same}

module _ (tests : Tests) (right : IsRight tests) (ds : List Decl) (base : List Entry) (subs : List Signature) (loose : Bool) (funcs : List TreeFunc) (w : WellNamed base) where
  abbrev StmtAt : StmtClaim → Core → Type 0
  StmtAt j c = Held tests right ds base subs loose funcs w j c

  abbrev Same_act : StmtClaim → Bool → Does Exit → Runs Exit → Type 0
  Same_act j b p q = ActSame tests right ds base subs loose funcs w j b p q

  -- while the exception is handled
  held_inside : (j : StmtClaim) (x : Value) (c : Core) → Raised (types_in base) x → StmtAt j c → StmtAt (inside tests right ds base subs loose funcs w j x) (record c { handled = x ∷ c.handled })
  held_inside j x c r k = record {
    at = record { agrees = handled_agrees base j.body.scope.names j.present (x ∷ c.handled) c (r, k.at.agrees.handled) k.at.agrees; subs_are = k.at.subs_are; around_is = ap (λ (r : Around). record r { handled = x ∷ r.handled }) k.at.around_is; stands = k.at.stands; counted = k.at.counted };
    subs_formed = k.subs_formed;
    formed = k.formed;
    result_is = k.result_is;
    handles = λ q. tt;
    scope_good = k.scope_good;
    body_is = k.body_is;
  }

  -- `otherwise`, or the exception is thrown on
  last_same : (j : StmtClaim) (b : Bool) (x : Value) (o : st.Otherwise-F Alternative Catcher ElseIf Otherwise Stmt) (l : LastListed) (c : Core) →
      last_block (otherwise_found (map-Otherwise Alternative Catcher ElseIf Otherwise Stmt FoundAlternative FoundCatcher FoundBranch FoundOtherwise FoundStmt
      (found_alternative tests) (found_catcher tests)
      (found_branch tests) (found_otherwise tests) (found_stmt tests) o)) (handling j.body) ≡ Ok l →
      StmtAt j c → Raised (types_in base) x → at_most Writes j.body.scope.class ≡ true → j.body.scope.names ≡ j.done.names → (otherwise_falls (map-Otherwise Alternative Catcher ElseIf Otherwise Stmt Bool Bool Bool Bool Bool
      alternative_fallen catcher_fallen
      branch_fallen otherwise_fallen falls o) ≡ true → b ≡ true) →
      Same_act j b (plan.uncaught frames x (otherwise_layer o) c) (plan.uncaught in_bare x (last_of l.last) (erased c))
  last_same j b x st.NoOtherwise l c h k r g names f =
      subst (λ (z : LastListed). Same_act j b (Raise x c) (plan.uncaught in_bare x (last_of z.last) (erased c))) (ok_ok _ l h) (refl, refl, over_here tests right ds base subs loose funcs w j x c r g k.at)
  last_same j b x (st.Otherwise ss) l c h k r g names f =
      let m = bind_ok (block (map (found_stmt tests) ss) (handling j.body)) _ l h in
      subst (λ (z : LastListed). Same_act j b (plan.handling frames x (scope frames ss) c) (plan.uncaught in_bare x (last_of z.last) (erased c))) (ok_ok _ l m.then)
      (handling_same tests right ds base subs loose funcs w j b x c (scope frames ss) (scope in_bare (acts_of m.value.acts)) k.at
      (block_same tests right ds base subs loose funcs w (inside tests right ds base subs loose funcs w j x) b m.value ss (record c { handled = x ∷ c.handled }) m.first (held_inside j x c r k) names (λ q. f (fall_same ss ∙ q))))

  -- the list of a catcher, where the exception may have a name
  list_caught : (j : StmtClaim) (b : Bool) (o : Option Ident) (t : Ident) (T : Ty) (x : Value) (B : Body) (l : Listed) (ss : List Stmt) (c : Core) → with_caught o T j.body ≡ Ok B → block (map (found_stmt tests) ss) (handling B) ≡ Ok l → StmtAt j c → Raised (types_in base) x →
      j.body.scope.names ≡ j.done.names → (falls_through ss ≡ true → b ≡ true) → types_among base t.text ≡ Some (closed T) → WellFormed (types_in base) T → InType (types_in base) j.present x T → type_with T j.present ≡ closed T → type_of_name t.text j.body.scope.names ≡ Some T →
      Same_act (inside tests right ds base subs loose funcs w j x) b (catch_list frames (option_map (λ i. caught_as (env tests right ds base subs loose funcs w) i t.text) o) x ss (record c { handled = x ∷ c.handled }))
      (catch_list in_bare (bare.caught_as (not (is_absent o))) x (acts_of l.acts) (erased (record c { handled = x ∷ c.handled })))
  list_caught j b None t T x B l ss c n h k r names f e wf i fix is =
      block_same tests right ds base subs loose funcs w (inside tests right ds base subs loose funcs w j x) b l ss (record c { handled = x ∷ c.handled }) (subst (λ D. block (map (found_stmt tests) ss) (handling D) ≡ Ok l) (sym (ok_ok j.body B n)) h) (held_inside j x c r k) names f
  list_caught j b (Some m) t T x B l ss c n h k r names f e wf i fix is =
      let u = then_ok (need (is_free m.text j.body.scope.names) T01 m.span) (Ok (body_names j.body (j.body.scope.names ++ fixed m.text T None ∷ []))) B n in
      named_same tests right ds base subs loose funcs w (inside tests right ds base subs loose funcs w j x) b m t.text T x l ss (record c { handled = x ∷ c.handled }) (need_ok (is_free m.text j.body.scope.names) T01 m.span tt u.first)
      (subst (λ D. block (map (found_stmt tests) ss) (handling D) ≡ Ok l) (sym (ok_ok (body_names j.body (j.body.scope.names ++ fixed m.text T None ∷ [])) B u.then)) h) (held_inside j x c r k) names f e wf i fix
      (subst (λ (D : Body). GoodScope tests D.scope) (sym (ok_ok (body_names j.body (j.body.scope.names ++ fixed m.text T None ∷ [])) B u.then)) (caught_scope tests (Some m) T t.text j.body B k.scope_good is n))

  -- a catcher, and what comes where it doesn't take the exception
  catcher_same : (j : StmtClaim) (b : Bool) (x : Value) (h : st.Catcher-F Alternative Catcher ElseIf Otherwise Stmt) (y : TypedCatcher) (c : Core) (rest : Core → Does Exit) (others : BareCore → Runs Exit) →
      catcher_rule (catcher_found (map-Catcher Alternative Catcher ElseIf Otherwise Stmt FoundAlternative FoundCatcher FoundBranch FoundOtherwise FoundStmt (found_alternative tests) (found_catcher tests) (found_branch tests) (found_otherwise tests) (found_stmt tests) h)) j.body ≡ Ok y →
      StmtAt j c → Raised (types_in base) x → j.body.scope.names ≡ j.done.names →
      (catcher_falls (map-Catcher Alternative Catcher ElseIf Otherwise Stmt Bool Bool Bool Bool Bool alternative_fallen catcher_fallen branch_fallen otherwise_fallen falls h) ≡ true → b ≡ true) → Same_act j b (rest c) (others (erased c)) →
      Same_act j b (plan.catcher frames x (catch_layer (env tests right ds base subs loose funcs w) h) rest c) (plan.catcher in_bare x (record { caught = y.ty; named = bare.caught_as y.has_name; body = acts_of y.body.acts }) others (erased c))
  catcher_same j b x (st.Catch o t ss) y c rest others h k r names f s =
      let T = bind_ok (found_or (type_of_name t.text j.body.scope.names) T02 t.span) _ y h in
      let n = then_ok (need (is_exception T.value) T21 t.span) _ y T.then in
      let B = bind_ok (with_caught o T.value j.body) _ y n.then in
      let l = bind_ok (block (map (found_stmt tests) ss) (handling B.value)) _ y B.then in
      let e : type_of_name t.text j.body.scope.names ≡ Some T.value = found_ok (type_of_name t.text j.body.scope.names) T02 t.span T.value T.first in
      let g : types_in base t.text ≡ Some T.value = same_types j.present base j.body.scope.names c t.text k.at.agrees ∙ e in
      let d = well_declared base w in
      let fix = d.fixed t.text T.value g in
      let is = need_ok (is_exception T.value) T21 t.span tt n.first in
      subst (λ (z : TypedCatcher). Same_act j b (plan.catcher frames x (catch_layer (env tests right ds base subs loose funcs w) (st.Catch o t ss)) rest c) (plan.catcher in_bare x (record { caught = z.ty; named = bare.caught_as z.has_name; body = acts_of z.body.acts }) others (erased c))) (ok_ok _ y l.then)
      (tested (is_caught t.text x) refl (plan.handling frames x (catch_list frames (option_map (λ i. caught_as (env tests right ds base subs loose funcs w) i t.text) o) x ss) c) (rest c) (plan.handling in_bare x (catch_list in_bare (bare.caught_as (not (is_absent o))) x (acts_of l.value.acts)) (erased c)) (others (erased c))
      (λ m. handling_same tests right ds base subs loose funcs w j b x c (catch_list frames (option_map (λ i. caught_as (env tests right ds base subs loose funcs w) i t.text) o) x ss) (catch_list in_bare (bare.caught_as (not (is_absent o))) x (acts_of l.value.acts)) k.at
      (list_caught j b o t T.value x B.value l.value ss c B.first l.first k r names (λ q. f (fall_same ss ∙ q)) (ap (option_map closed) g) (d.each t.text T.value g)
      (at_present T.value x fix (caught_in tests right base w T.value t.text x r g is m)) (fix j.present) e)) s)
    where
      at_present : (T : Ty) (x : Value) → Fixed T → InType (types_in base) no_atoms x T → InType (types_in base) j.present x T
      at_present T x f i = (subst (λ C. has x C ≡ true) (f no_atoms ∙ sym (f j.present)) i.0, i.1, subst (λ C. viewed C x ≡ x) (f no_atoms ∙ sym (f j.present)) i.2)

      tested : (m : Bool) → is_caught t.text x ≡ m → (p q : Does Exit) (u v : Runs Exit) → (is_caught t.text x ≡ true → Same_act j b p u) → Same_act j b q v → Same_act j b (choose (is_caught t.text x) p q) (choose (is_caught t.text x) u v)
      tested true m p q u v g s = subst (λ z. Same_act j b (choose z p q) (choose z u v)) (sym m) (g m)
      tested false m p q u v g s = subst (λ z. Same_act j b (choose z p q) (choose z u v)) (sym m) s

  -- the catchers in their order
  catchers_same : (j : StmtClaim) (b : Bool) (x : Value) (hs : List Catcher) (ys : List TypedCatcher) (o : Otherwise) (l : LastListed) (c : Core) → branches.catchers (map (found_catcher tests) hs) j.body ≡ Ok ys → last_block (found_otherwise tests o) (handling j.body) ≡ Ok l →
      StmtAt j c → Raised (types_in base) x → at_most Writes j.body.scope.class ≡ true → j.body.scope.names ≡ j.done.names → (any_falls (map catcher_fallen hs) ≡ true → b ≡ true) → (otherwise_fallen o ≡ true → b ≡ true) →
      Same_act j b (plan.catchers frames (catch_in (env tests right ds base subs loose funcs w)) x hs (otherwise_in o) c) (plan.catchers in_bare itself x (catches_of (catcher_trees ys)) (last_of l.last) (erased c))
  catchers_same j b x [] ys o l c h m k r a names f g =
      let u : found_otherwise tests o ≡ otherwise_found (map-Otherwise Alternative Catcher ElseIf Otherwise Stmt FoundAlternative FoundCatcher FoundBranch FoundOtherwise FoundStmt (found_alternative tests) (found_catcher tests) (found_branch tests) (found_otherwise tests) (found_stmt tests) (out-Otherwise o)) = fold_out-Otherwise FoundAlternative FoundCatcher FoundBranch FoundOtherwise FoundStmt alternative_found catcher_found branch_found otherwise_found (stmt_layer_rule tests) o in
      let v : otherwise_fallen o ≡ otherwise_falls (map-Otherwise Alternative Catcher ElseIf Otherwise Stmt Bool Bool Bool Bool Bool alternative_fallen catcher_fallen branch_fallen otherwise_fallen falls (out-Otherwise o)) = fold_out-Otherwise Bool Bool Bool Bool Bool alternative_falls catcher_falls branch_falls otherwise_falls falls_layer o in
      subst (λ z. Same_act j b (plan.catchers frames (catch_in (env tests right ds base subs loose funcs w)) x [] (otherwise_in o) c) (plan.catchers in_bare itself x (catches_of (catcher_trees z)) (last_of l.last) (erased c))) (ok_ok [] ys h)
      (last_same j b x (out-Otherwise o) l c (sym (ap (λ (z : FoundOtherwise). last_block z (handling j.body)) u) ∙ m) k r a names (λ i. g (v ∙ i)))
  catchers_same j b x (y ∷ hs) ys o l c h m k r a names f g =
      let t = bind_ok (catcher_rule (found_catcher tests y) j.body) _ ys h in
      let ts = bind_ok (branches.catchers (map (found_catcher tests) hs) j.body) _ ys t.then in
      let u : found_catcher tests y ≡ catcher_found (map-Catcher Alternative Catcher ElseIf Otherwise Stmt FoundAlternative FoundCatcher FoundBranch FoundOtherwise FoundStmt (found_alternative tests) (found_catcher tests) (found_branch tests) (found_otherwise tests) (found_stmt tests) (out-Catcher y)) = fold_out-Catcher FoundAlternative FoundCatcher FoundBranch FoundOtherwise FoundStmt alternative_found catcher_found branch_found otherwise_found (stmt_layer_rule tests) y in
      let v : catcher_fallen y ≡ catcher_falls (map-Catcher Alternative Catcher ElseIf Otherwise Stmt Bool Bool Bool Bool Bool alternative_fallen catcher_fallen branch_fallen otherwise_fallen falls (out-Catcher y)) = fold_out-Catcher Bool Bool Bool Bool Bool alternative_falls catcher_falls branch_falls otherwise_falls falls_layer y in
      subst (λ z. Same_act j b (plan.catchers frames (catch_in (env tests right ds base subs loose funcs w)) x (y ∷ hs) (otherwise_in o) c) (plan.catchers in_bare itself x (catches_of (catcher_trees z)) (last_of l.last) (erased c))) (ok_ok (t.value ∷ ts.value) ys ts.then)
      (catcher_same j b x (out-Catcher y) t.value c (plan.catchers frames (catch_in (env tests right ds base subs loose funcs w)) x hs (otherwise_in o)) (plan.catchers in_bare itself x (catches_of (catcher_trees ts.value)) (last_of l.last))
      (sym (ap (λ (z : FoundCatcher). catcher_rule z j.body) u) ∙ t.first) k r names (λ i. f (or_first (catcher_fallen y) (any_falls (map catcher_fallen hs)) (v ∙ i)))
      (catchers_same j b x hs ts.value o l c ts.first m k r a names (λ i. f (or_second (catcher_fallen y) (any_falls (map catcher_fallen hs)) i)) g))

  abbrev later_on : StmtClaim → Assignment → StmtClaim
  later_on j later = record { body = j.body; done = j.done; present = later; params = j.params; around = j.around }

  abbrev from_here : List Catcher → Otherwise → Value → Core → Does Exit
  from_here hs o x = plan.catchers frames (catch_in (env tests right ds base subs loose funcs w)) x hs (otherwise_in o)

  abbrev in_trees : List TypedCatcher → LastListed → Value → BareCore → Runs Exit
  in_trees ys l x = plan.catchers in_bare itself x (catches_of (catcher_trees ys)) (last_of l.last)

  -- the list, and the catchers in the frame before it
  tried_same : (j : StmtClaim) (b : Bool) (ss : List Stmt) (m : Listed) (hs : List Catcher) (ys : List TypedCatcher) (o : Otherwise) (l : LastListed) (c : Core) → block (map (found_stmt tests) ss) j.body ≡ Ok m → branches.catchers (map (found_catcher tests) hs) j.body ≡ Ok ys → last_block (found_otherwise tests o) (handling j.body) ≡ Ok l →
      StmtAt j c → j.body.scope.names ≡ j.done.names → (falls_through ss ≡ true → b ≡ true) → (any_falls (map catcher_fallen hs) ≡ true → b ≡ true) → (otherwise_fallen o ≡ true → b ≡ true) →
      Same_act j b (plan.try_list frames (catch_in (env tests right ds base subs loose funcs w)) ss hs (otherwise_in o) c) (plan.try_list in_bare itself (acts_of m.acts) (catches_of (catcher_trees ys)) (last_of l.last) (erased c))
  tried_same j b ss m hs ys o l c hm hy hl k names e f g =
      let n = length c.frame in
      twins_weaker (our tests base subs loose) (OutAct tests right ds base subs loose funcs w j b) (λ x y c1. Same_act j b (Ret x c1) (Ret y (erased c1)))
      (Throws tests right base subs loose (here tests right ds base subs loose funcs w j)) (λ x c1. Same_act j b (from_here hs o x (frames.cut n c1)) (in_trees ys l x (in_bare.cut (length (values_of c.frame)) (erased c1))))
      (λ x y c1 q. (refl, q))
      (λ x c1 q. subst (λ i. Same_act j b (from_here hs o x (frames.cut n c1)) (in_trees ys l x (in_bare.cut i (erased c1)))) (sym (values_length c.frame))
      (subst (λ d. Same_act j b (from_here hs o x (frames.cut n c1)) (in_trees ys l x d)) (erased_cut n c1)
      (brought_back tests right ds base subs loose funcs w j b q.later (from_here hs o x (frames.cut n c1)) (in_trees ys l x (erased (frames.cut n c1))) q.same
      (catchers_same (later_on j q.later) b x hs ys o l (frames.cut n c1) hy hl
      (held_later tests right ds base subs loose funcs w j q.later c (frames.cut n c1) k q.same (cut_agrees base j.body.scope.names q.more j.present q.later c c1 k.at.agrees q.agrees) q.around_is) q.raised q.writes names f g))))
      (scope frames ss c) (scope in_bare (acts_of m.acts) (erased c)) (block_same tests right ds base subs loose funcs w j b m ss c hm k names e)

  pub try_acted : (j : StmtClaim) (span : Span) (ss : List Stmt) (hs : List Catcher) (o : Otherwise) (c : Core) → try_rule span (map (found_stmt tests) ss) (map (found_catcher tests) hs) (found_otherwise tests o) j.body ≡ Ok j.done → StmtAt j c →
      Acted tests right ds base subs loose funcs w j (all_fall (map falls ss) || (any_falls (map catcher_fallen hs) || otherwise_fallen o)) (st.Try span ss hs o) c
  try_acted j span ss hs o c h k =
      let first : Bool = all_fall (map falls ss) in
      let second : Bool = any_falls (map catcher_fallen hs) in
      let third : Bool = otherwise_fallen o in
      let m = bind_ok (block (map (found_stmt tests) ss) j.body) _ j.done h in
      let ys = bind_ok (branches.catchers (map (found_catcher tests) hs) j.body) _ j.done m.then in
      let l = bind_ok (last_block (found_otherwise tests o) (handling j.body)) _ j.done ys.then in
      let n = greater (greater m.value.effect (branches.catcher_effects ys.value)) l.value.effect in
      let act : Act = tree.Try span m.value.acts (catcher_trees ys.value) l.value.last in
      let G = j.body.scope in
      acted tests right ds base subs loose funcs w j (first || (second || third)) (st.Try span ss hs o) c (done G.names n act) (ended_is G.class span true n G.names act j.done l.then) refl
      (λ i. tried_same j (first || (second || third)) ss m.value hs ys.value o l.value c m.first ys.first l.first k (ap (λ (z : Done). z.names) i)
      (λ q. or_first first (second || third) (fall_same ss ∙ q)) (λ q. or_second first (second || third) (or_first second third q)) (λ q. or_second first (second || third) (or_second second third q)))
