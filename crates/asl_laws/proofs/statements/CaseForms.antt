-- `case` with its typed tree: the expressions of patterns in order, a decided value, and the list that is chosen.
use Rattle.std.proofs.Common.{◌≡◌, Bool, true, false, ◌||◌, List, [], ◌∷◌, ◌++◌, map, Option, Some, None, Ok, refl, sym, ap, ◌∙◌, subst, append_assoc}
use Rattle.asl_syn.specs.declared.token.Span.{Span}
use Rattle.asl_syn.specs.declared.code.StaticCode.TheVariants.{T05}
use Rattle.asl_syn.specs.declared.tree.Expr.{Expr}
use Rattle.asl_syn.specs.declared.tree.Pattern.{Pattern}
use Rattle.asl_syn.specs.declared.tree.Stmt.{Stmt}
use Rattle.asl_syn.specs.declared.tree.Alternative.{Alternative, out-Alternative}
use Rattle.asl_syn.specs.declared.tree.Catcher.{Catcher}
use Rattle.asl_syn.specs.declared.tree.ElseIf.{ElseIf}
use Rattle.asl_syn.specs.declared.tree.Otherwise.{Otherwise, out-Otherwise}
use Rattle.asl_syn.specs.declared.tree.Alternative.TheOpen as st
use Rattle.asl_syn.specs.declared.tree.Alternative.TheFolds.{fold-Alternative, fold-Catcher, fold-ElseIf, fold-Otherwise, fold_out-Alternative, fold_out-Otherwise, map-Alternative, map-Otherwise}
use Rattle.asl_syn.specs.declared.tree.Decl.{Decl}
use Rattle.asl_rules.specs.declared.effect.Effect.TheVariants.{Pure, Readonly}
use Rattle.asl_rules.specs.Tests.{Tests, IsRight}
use Rattle.asl_rules.specs.types.Types.{Ty, is_boolean}
use Rattle.asl_rules.specs.types.Effects.{greater, lesser}
use Rattle.asl_rules.specs.declarations.Scopes.{Entry, Signature, with_class}
use Rattle.asl_rules.specs.types.Shapes.{pattern_and}
use Rattle.asl_rules.specs.types.Shaped.{pattern_parts, exprs_in_patterns, shapes_of_patterns}
use Rattle.asl_rules.specs.runs.Trees as tree
use Rattle.asl_rules.specs.runs.Trees.{Tree, Act, TreeFunc}
use Rattle.asl_rules.specs.expressions.Typing.{Operand, trees_from, Typed}
use Rattle.asl_rules.specs.expressions.Patterns.{Matched, pattern_shapes, pattern_trees}
use Rattle.asl_rules.specs.expressions.Exprs.{found_pattern, typed}
use Rattle.asl_rules.specs.statements.Acting.{Done, FoundStmt, FoundOtherwise, Listed, LastListed, done, block, last_block, operand_of, reading_scope}
use Rattle.asl_rules.specs.statements.Branches.{FoundBranch, FoundAlternative, FoundCatcher, TypedAlternative, all_patterns, where_rule, alternative_rule, alternatives as alternatives_rule, where_condition, where_conditions, alternative_effects, alternative_trees, tree_in, case_rule}
use Rattle.asl_rules.specs.statements.Stmts.{found_stmt, stmt_layer_rule, alternative_found, catcher_found, branch_found, otherwise_found}
use Rattle.asl_rules.specs.statements.Falling.{falls, falls_through, any_falls, falls_layer, alternative_falls, catcher_falls, branch_falls, otherwise_falls}
use Rattle.asl_rules.specs.values.Values.{Value, Exit}
use Rattle.asl_rules.specs.runs.States.{Core}
use Rattle.asl_rules.specs.private.Belonging.{InType}
use Rattle.asl_rules.specs.private.Agreement.{types_in}
use Rattle.asl_rules.specs.runs.Plans.{Faulted, Stuck, Pure as PureOf, Good, Bad, choose, lift}
use Rattle.asl_rules.specs.runs.Pures as pure
use Rattle.asl_rules.specs.values.Operators.{truth}
use Rattle.asl_rules.specs.values.Matching as runs
use Rattle.asl_rules.specs.values.Matching.{matches, any_match, is_matched}
use Rattle.asl_rules.specs.runs.StatementForms.{scope, guarded, alternative, alternatives, no_match}
use Rattle.asl_rules.specs.runs.Evaluation.{Does, frames, choice_layer, choice_in, otherwise_layer, otherwise_in}
use Rattle.asl_rules.specs.private.TypedMeaning.{BareCore, Runs, in_bare, acts_of, list_of, choices_of, last_of, itself}
use Rattle.asl_rules.specs.private.Erasure.{erased}
use Rattle.asl_rules.proofs.basics.Inversions.{ok_ok, bind_ok, then_ok, need_ok}
use Rattle.asl_rules.proofs.basics.Tests.{or_first, or_second}
use Rattle.asl_rules.proofs.scopes.Naming.{WellNamed, scope_good, well_declared}
use Rattle.asl_laws.proofs.expressions.Claims.{Here, Asked, StmtClaim, At}
use Rattle.asl_laws.proofs.expressions.Standing.{lesser_below, stands_lesser, thrown_lesser}
use Rattle.asl_laws.proofs.expressions.TreePlans.{AllAsked, AllGive, operand, operand_in, truth_same, all_same, list_from, append_nil}
use Rattle.asl_laws.proofs.expressions.MatchForms.{Decided, decided_then, asks_both, split, Known, pattern_says}
use Rattle.asl_laws.proofs.expressions.ExprForms.{env}
use Rattle.asl_laws.proofs.statements.StmtForms.{here, in_class, Held, OutAct, ActSame, Acted, acted, operand_typed, ended_is}
use Rattle.asl_laws.proofs.statements.ListForms.{moved, block_same, fall_same}
use Rattle.asl_rules.specs.private.WellFormed.{Shaped, WellFormed}
use Rattle.asl_laws.proofs.scopes.WellTyped.{FormedSubs, typed_formed}

module _ (tests : Tests) (right : IsRight tests) (base : List Entry) (subs : List Signature) (loose : Bool) (H : Here) where
  -- the patterns of an alternative
  record PatternsSay (ps : List Pattern) (T : Ty) (ms : List Matched) : Type 0 where
    pub asked : List Asked
    pub shapes_are : shapes_of_patterns ps ≡ pattern_shapes ms
    pub asks : AllAsked tests right base subs loose H.scope (exprs_in_patterns ps) (pattern_trees ms) asked
    pub decides : (x : Value) (xs rest : List Value) → InType (types_in base) H.present x T → AllGive tests right base subs loose H asked xs → Decided (any_match tests.limit (pattern_shapes ms) x (xs ++ rest)) rest

  none_left : (xs rest : List Value) → AllGive tests right base subs loose H [] xs → xs ++ rest ≡ rest
  none_left [] rest g = refl
  none_left (x ∷ xs) rest g = absurd g

  patterns_say : (ps : List Pattern) (T : Ty) (ms : List Matched) → Known tests right base subs loose H → Shaped (types_in base) T → all_patterns tests ps T H.scope ≡ Ok ms → PatternsSay ps T ms
  patterns_say [] T ms known of_type h = subst (PatternsSay [] T) (ok_ok [] ms h) (record { asked = []; shapes_are = refl; asks = tt; decides = λ x xs rest i g. none_left xs rest g })
  patterns_say (p ∷ ps) T ms known of_type h =
      let s = bind_ok (found_pattern tests p T (with_class H.scope Pure)) _ ms h in
      let r = bind_ok (all_patterns tests ps T H.scope) _ ms s.then in
      let a = pattern_says tests right base subs loose H p T s.value known of_type s.first in
      let b = patterns_say ps T r.value known of_type r.first in
      subst (PatternsSay (p ∷ ps) T) (ok_ok (s.value ∷ r.value) ms r.then)
      (record {
        asked = a.asked ++ b.asked;
        shapes_are = ap (λ q. pattern_and q (shapes_of_patterns ps)) a.shape_is ∙ ap (pattern_and s.value.shape) b.shapes_are;
        asks = asks_both tests right base subs loose H (pattern_parts p).exprs (exprs_in_patterns ps) s.value.trees (pattern_trees r.value) a.asked b.asked a.asks b.asks;
        decides = λ x xs rest i g.
            let v = split tests right base subs loose H a.asked b.asked xs g in
            subst (λ l. Decided (any_match tests.limit (pattern_and s.value.shape (pattern_shapes r.value)) x (l ++ rest)) rest) (sym v.are)
            (subst (λ l. Decided (any_match tests.limit (pattern_and s.value.shape (pattern_shapes r.value)) x l) rest) (sym (append_assoc v.first v.second rest))
            (decided_then (matches tests.limit s.value.shape x (v.first ++ (v.second ++ rest))) _ (v.second ++ rest) rest (a.decides x v.first (v.second ++ rest) i v.own) (λ m e.
            decided_then (any_match tests.limit (pattern_shapes r.value) x m.left) _ rest rest (subst (λ l. Decided (any_match tests.limit (pattern_shapes r.value) x l) rest) (sym e) (b.decides x v.second rest i v.others)) (λ n k. k))));
      })

module _ (tests : Tests) where
  abbrev found_alternative : Alternative → FoundAlternative
  found_alternative = fold-Alternative FoundAlternative FoundCatcher FoundBranch FoundOtherwise FoundStmt alternative_found catcher_found branch_found otherwise_found (stmt_layer_rule tests)

  abbrev found_catcher : Catcher → FoundCatcher
  found_catcher = fold-Catcher FoundAlternative FoundCatcher FoundBranch FoundOtherwise FoundStmt alternative_found catcher_found branch_found otherwise_found (stmt_layer_rule tests)

  abbrev found_branch : ElseIf → FoundBranch
  found_branch = fold-ElseIf FoundAlternative FoundCatcher FoundBranch FoundOtherwise FoundStmt alternative_found catcher_found branch_found otherwise_found (stmt_layer_rule tests)

  abbrev found_otherwise : Otherwise → FoundOtherwise
  found_otherwise = fold-Otherwise FoundAlternative FoundCatcher FoundBranch FoundOtherwise FoundStmt alternative_found catcher_found branch_found otherwise_found (stmt_layer_rule tests)

  abbrev alternative_opened : st.Alternative-F Alternative Catcher ElseIf Otherwise Stmt → st.Alternative-F FoundAlternative FoundCatcher FoundBranch FoundOtherwise FoundStmt
  alternative_opened = map-Alternative Alternative Catcher ElseIf Otherwise Stmt FoundAlternative FoundCatcher FoundBranch FoundOtherwise FoundStmt found_alternative found_catcher found_branch found_otherwise (found_stmt tests)

  abbrev otherwise_opened : st.Otherwise-F Alternative Catcher ElseIf Otherwise Stmt → st.Otherwise-F FoundAlternative FoundCatcher FoundBranch FoundOtherwise FoundStmt
  otherwise_opened = map-Otherwise Alternative Catcher ElseIf Otherwise Stmt FoundAlternative FoundCatcher FoundBranch FoundOtherwise FoundStmt found_alternative found_catcher found_branch found_otherwise (found_stmt tests)

abbrev alternative_fallen : Alternative → Bool
alternative_fallen = fold-Alternative Bool Bool Bool Bool Bool alternative_falls catcher_falls branch_falls otherwise_falls falls_layer

abbrev catcher_fallen : Catcher → Bool
catcher_fallen = fold-Catcher Bool Bool Bool Bool Bool alternative_falls catcher_falls branch_falls otherwise_falls falls_layer

abbrev branch_fallen : ElseIf → Bool
branch_fallen = fold-ElseIf Bool Bool Bool Bool Bool alternative_falls catcher_falls branch_falls otherwise_falls falls_layer

abbrev otherwise_fallen : Otherwise → Bool
otherwise_fallen = fold-Otherwise Bool Bool Bool Bool Bool alternative_falls catcher_falls branch_falls otherwise_falls falls_layer

abbrev alternative_closed : st.Alternative-F Alternative Catcher ElseIf Otherwise Stmt → st.Alternative-F Bool Bool Bool Bool Bool
alternative_closed = map-Alternative Alternative Catcher ElseIf Otherwise Stmt Bool Bool Bool Bool Bool alternative_fallen catcher_fallen branch_fallen otherwise_fallen falls

abbrev otherwise_closed : st.Otherwise-F Alternative Catcher ElseIf Otherwise Stmt → st.Otherwise-F Bool Bool Bool Bool Bool
otherwise_closed = map-Otherwise Alternative Catcher ElseIf Otherwise Stmt Bool Bool Bool Bool Bool alternative_fallen catcher_fallen branch_fallen otherwise_fallen falls

module _ (tests : Tests) (right : IsRight tests) (ds : List Decl) (base : List Entry) (subs : List Signature) (loose : Bool) (funcs : List TreeFunc) (w : WellNamed base) where
  abbrev HeldAt : StmtClaim → Core → Type 0
  HeldAt j c = Held tests right ds base subs loose funcs w j c

  abbrev Both : StmtClaim → Bool → Does Exit → Runs Exit → Type 0
  Both j b p q = ActSame tests right ds base subs loose funcs w j b p q

  abbrev spot : StmtClaim → Here
  spot j = here tests right ds base subs loose funcs w j

  -- a `where`
  where_same : (j : StmtClaim) (b : Bool) (span : Span) (e : Option Expr) (o : Option Operand) (ss : List Stmt) (l : Listed) (rest : Core → Does Exit) (others : BareCore → Runs Exit) (c : Core) → where_rule tests e j.body.scope ≡ Ok o → where_condition o ≡ Ok tt → block (map (found_stmt tests) ss) j.body ≡ Ok l → HeldAt j c → j.body.scope.names ≡ j.done.names → (falls_through ss ≡ true → b ≡ true) →
      ((c1 : Core) → HeldAt j c1 → Both j b (rest c1) (others (erased c1))) → Both j b (guarded frames span e ss rest c) (guarded in_bare span (tree_in o) (acts_of l.acts) others (erased c))
  where_same j b span None o ss l rest others c h k g held names f next = subst (λ z. Both j b (guarded frames span None ss rest c) (guarded in_bare span (tree_in z) (acts_of l.acts) others (erased c))) (ok_ok None o h) (block_same tests right ds base subs loose funcs w j b l ss c g held names f)
  where_same j b span (Some e) o ss l rest others c h k g held names f next =
      let t = bind_ok (operand_of tests e (reading_scope j.body.scope)) _ o h in
      let H = in_class tests right ds base subs loose funcs w (spot j) (reading_scope j.body.scope) in
      let S = t.value.typed in
      subst (λ z. where_condition z ≡ Ok tt → Both j b (guarded frames span (Some e) ss rest c) (guarded in_bare span (tree_in z) (acts_of l.acts) others (erased c))) (ok_ok (Some t.value) o t.then)
      (λ q. operand_in tests right base subs loose (spot j) H (OutAct tests right ds base subs loose funcs w j b) e S c (λ x c1. lift (truth span x) c1 (λ p. choose p (scope frames ss c1) (rest c1))) (λ x c1. lift (truth span x) c1 (λ p. choose p (scope in_bare (acts_of l.acts) c1) (others c1))) (operand_typed tests e (reading_scope j.body.scope) t.value t.first)
      (record { agrees = held.at.agrees; subs_are = held.at.subs_are; around_is = held.at.around_is; stands = stands_lesser tests base subs loose (lesser j.body.scope.class Readonly) j.body.scope.class j.around (lesser_below j.body.scope.class) held.at.stands; counted = held.at.counted })
      (λ x c1 t.
      thrown_lesser tests base subs loose (lesser j.body.scope.class Readonly) j.body.scope.class j.body.scope.names j.present j.around x c1
      (lesser_below j.body.scope.class) t)
      (λ x c1 i a.
      let m = moved tests right ds base subs loose funcs w j c c1 held (record { agrees = a.agrees; subs_are = a.subs_are; around_is = a.around_is; stands = held.at.stands; counted = held.at.counted }) in
      truth_same tests right base subs loose (spot j) (OutAct tests right ds base subs loose funcs w j b) span x S.ty c1 (λ p. choose p (scope frames ss c1) (rest c1)) (λ p. choose p (scope in_bare (acts_of l.acts) (erased c1)) (others (erased c1))) (need_ok (is_boolean S.ty) T05 t.value.span tt q) i
      (λ p. chosen p (scope frames ss c1) (rest c1) (scope in_bare (acts_of l.acts) (erased c1)) (others (erased c1)) (block_same tests right ds base subs loose funcs w j b l ss c1 g m names f) (next c1 m)))) k
    where
      chosen : (p : Bool) (x y : Does Exit) (u v : Runs Exit) → Both j b x u → Both j b y v → Both j b (choose p x y) (choose p u v)
      chosen true x y u v h k = h
      chosen false x y u v h k = k

  -- a value that is decided
  decided_same : (j : StmtClaim) (b : Bool) (r : PureOf runs.Matched) (c : Core) (first second : Does Exit) (third fourth : Runs Exit) → At tests base subs loose (spot j) c → Decided r [] → Both j b first third → Both j b second fourth →
      Both j b (lift (pure.◌>>=◌ r (λ m. Good m.holds)) c (λ t. choose t first second)) (lift (pure.◌>>=◌ r (λ m. Good m.holds)) (erased c) (λ t. choose t third fourth))
  decided_same j b (Good m) c x y u v a d h k = by m.holds
    where
      by : (t : Bool) → Both j b (choose t x y) (choose t u v)
      by true = h
      by false = k
  decided_same j b (Bad (Faulted code span)) c x y u v a d h k = (refl, refl, a.agrees.globals)
  decided_same j b (Bad (Stuck mistake span)) c x y u v a d h k = absurd d

  -- the types of expressions, and of those in patterns
  formed_at : (j : StmtClaim) (c : Core) → HeldAt j c → (e : Expr) (S : Typed) → typed tests e j.body.scope ≡ Ok S → WellFormed (types_in base) S.ty
  formed_at j c k e S h =
      typed_formed tests right (types_in base) (well_declared base w) e j.body.scope S (scope_good j.present base j.body.scope.names c w k.at.agrees) (subst (FormedSubs tests right (types_in base) (well_declared base w)) (sym k.at.subs_are) k.subs_formed) h

  known_at : (j : StmtClaim) (c : Core) → HeldAt j c → Known tests right base subs loose (spot j)
  known_at j c k = record {
    declared = well_declared base w;
    formed = λ e S h. typed_formed tests right (types_in base) (well_declared base w) e (with_class j.body.scope Pure) S (scope_good j.present base j.body.scope.names c w k.at.agrees) (subst (FormedSubs tests right (types_in base) (well_declared base w)) (sym k.at.subs_are) k.subs_formed) h;
  }

  -- an alternative, and those behind it
  alternative_same : (j : StmtClaim) (b : Bool) (span : Span) (v : Value) (T : Ty) (l : st.Alternative-F Alternative Catcher ElseIf Otherwise Stmt) (x : TypedAlternative) (rest : Core → Does Exit) (others : BareCore → Runs Exit) (c : Core) → alternative_rule tests (alternative_found (alternative_opened tests l)) T j.body ≡ Ok x → where_condition x.condition ≡ Ok tt → Shaped (types_in base) T → InType (types_in base) j.present v T → HeldAt j c → j.body.scope.names ≡ j.done.names → (alternative_falls (alternative_closed l) ≡ true → b ≡ true) →
      ((c1 : Core) → HeldAt j c1 → Both j b (rest c1) (others (erased c1))) →
      Both j b (alternative frames span v (choice_layer (env tests right ds base subs loose funcs w) l) rest c) (alternative in_bare span v (record { exprs = list_of (trees_from (pattern_trees x.patterns)); matches = is_matched tests.limit (pattern_shapes x.patterns); condition = tree_in x.condition; body = acts_of x.body.acts }) others (erased c))
  alternative_same j b span v T (st.When ps e ss) x rest others c h k of_type i held names f next =
      let m = bind_ok (all_patterns tests ps T j.body.scope) _ x h in
      let o = bind_ok (where_rule tests e j.body.scope) _ x m.then in
      let l = bind_ok (block (map (found_stmt tests) ss) j.body) _ x o.then in
      let q = patterns_say tests right base subs loose (spot j) ps T m.value (known_at j c held) of_type m.first in
      let C : Core → Does Exit = alternative frames span v (choice_layer (env tests right ds base subs loose funcs w) (st.When ps e ss)) rest in
      subst (λ (z : TypedAlternative). where_condition z.condition ≡ Ok tt → Both j b (C c) (alternative in_bare span v (record { exprs = list_of (trees_from (pattern_trees z.patterns)); matches = is_matched tests.limit (pattern_shapes z.patterns); condition = tree_in z.condition; body = acts_of z.body.acts }) others (erased c))) (ok_ok (record { patterns = m.value; condition = o.value; body = l.value }) x l.then)
      (λ g. subst (λ ts. Both j b (C c) (alternative in_bare span v (record { exprs = ts; matches = is_matched tests.limit (pattern_shapes m.value); condition = tree_in o.value; body = acts_of l.value.acts }) others (erased c))) (sym (list_from (pattern_trees m.value)))
      (all_same tests right base subs loose (spot j) (OutAct tests right ds base subs loose funcs w j b) (exprs_in_patterns ps) (pattern_trees m.value) q.asked [] c
      (λ zs c1. lift (is_matched tests.limit (shapes_of_patterns ps) zs v) c1 (λ t. choose t (guarded frames span e ss rest c1) (rest c1)))
      (λ zs c1. lift (is_matched tests.limit (pattern_shapes m.value) zs v) c1 (λ t. choose t (guarded in_bare span (tree_in o.value) (acts_of l.value.acts) others c1) (others c1))) q.asks held.at
      (λ zs c1 y a1.
      let n = moved tests right ds base subs loose funcs w j c c1 held a1 in
      subst (λ s. Both j b (lift (is_matched tests.limit s zs v) c1 (λ t. choose t (guarded frames span e ss rest c1) (rest c1))) (lift (is_matched tests.limit (pattern_shapes m.value) zs v) (erased c1) (λ t. choose t (guarded in_bare span (tree_in o.value) (acts_of l.value.acts) others (erased c1)) (others (erased c1))))) (sym q.shapes_are)
      (decided_same j b (any_match tests.limit (pattern_shapes m.value) v zs) c1 (guarded frames span e ss rest c1) (rest c1) (guarded in_bare span (tree_in o.value) (acts_of l.value.acts) others (erased c1)) (others (erased c1)) a1
      (subst (λ u. Decided (any_match tests.limit (pattern_shapes m.value) v u) []) (append_nil zs) (q.decides v zs [] i y))
      (where_same j b span e o.value ss l.value rest others c1 o.first g l.first n names (λ z. f (fall_same ss ∙ z)) next) (next c1 n))))) k

  last_same : (j : StmtClaim) (b : Bool) (span : Span) (o : st.Otherwise-F Alternative Catcher ElseIf Otherwise Stmt) (l : LastListed) (c : Core) → last_block (otherwise_found (otherwise_opened tests o)) j.body ≡ Ok l → HeldAt j c → j.body.scope.names ≡ j.done.names → (otherwise_falls (otherwise_closed o) ≡ true → b ≡ true) →
      Both j b (no_match frames span (otherwise_layer o) c) (no_match in_bare span (last_of l.last) (erased c))
  last_same j b span st.NoOtherwise l c h held names f = subst (λ (z : LastListed). Both j b (no_match frames span None c) (no_match in_bare span (last_of z.last) (erased c))) (ok_ok (record { effect = Pure; last = tree.none_last }) l h) (refl, refl, held.at.agrees.globals)
  last_same j b span (st.Otherwise ss) l c h held names f =
      let m = bind_ok (block (map (found_stmt tests) ss) j.body) _ l h in
      subst (λ (z : LastListed). Both j b (no_match frames span (Some ss) c) (no_match in_bare span (last_of z.last) (erased c))) (ok_ok (record { effect = m.value.effect; last = tree.otherwise m.value.acts }) l m.then)
      (block_same tests right ds base subs loose funcs w j b m.value ss c m.first held names (λ g. f (fall_same ss ∙ g)))

  alternatives_same : (j : StmtClaim) (b : Bool) (span : Span) (v : Value) (T : Ty) (alts : List Alternative) (xs : List TypedAlternative) (o : Otherwise) (l : LastListed) (c : Core) → alternatives_rule tests (map (found_alternative tests) alts) T j.body ≡ Ok xs → where_conditions xs ≡ Ok tt → last_block (found_otherwise tests o) j.body ≡ Ok l → Shaped (types_in base) T → InType (types_in base) j.present v T → HeldAt j c → j.body.scope.names ≡ j.done.names →
      (any_falls (map alternative_fallen alts) ≡ true → b ≡ true) → (otherwise_fallen o ≡ true → b ≡ true) → Both j b (alternatives frames (choice_in (env tests right ds base subs loose funcs w)) span v alts (otherwise_in o) c) (alternatives in_bare itself span v (choices_of tests.limit (alternative_trees xs)) (last_of l.last) (erased c))
  alternatives_same j b span v T [] xs o l c h k g of_type i held names f n =
      let u : found_otherwise tests o ≡ otherwise_found (otherwise_opened tests (out-Otherwise o)) = fold_out-Otherwise FoundAlternative FoundCatcher FoundBranch FoundOtherwise FoundStmt alternative_found catcher_found branch_found otherwise_found (stmt_layer_rule tests) o in
      let y : otherwise_fallen o ≡ otherwise_falls (otherwise_closed (out-Otherwise o)) = fold_out-Otherwise Bool Bool Bool Bool Bool alternative_falls catcher_falls branch_falls otherwise_falls falls_layer o in
      subst (λ z. Both j b (alternatives frames (choice_in (env tests right ds base subs loose funcs w)) span v [] (otherwise_in o) c) (alternatives in_bare itself span v (choices_of tests.limit (alternative_trees z)) (last_of l.last) (erased c))) (ok_ok [] xs h)
      (last_same j b span (out-Otherwise o) l c (sym (ap (λ z. last_block z j.body) u) ∙ g) held names (λ z. n (y ∙ z)))
  alternatives_same j b span v T (a ∷ alts) xs o l c h k g of_type i held names f n =
      let x = bind_ok (alternative_rule tests (found_alternative tests a) T j.body) _ xs h in
      let r = bind_ok (alternatives_rule tests (map (found_alternative tests) alts) T j.body) _ xs x.then in
      let u : found_alternative tests a ≡ alternative_found (alternative_opened tests (out-Alternative a)) = fold_out-Alternative FoundAlternative FoundCatcher FoundBranch FoundOtherwise FoundStmt alternative_found catcher_found branch_found otherwise_found (stmt_layer_rule tests) a in
      let y : alternative_fallen a ≡ alternative_falls (alternative_closed (out-Alternative a)) = fold_out-Alternative Bool Bool Bool Bool Bool alternative_falls catcher_falls branch_falls otherwise_falls falls_layer a in
      subst (λ z. where_conditions z ≡ Ok tt → Both j b (alternatives frames (choice_in (env tests right ds base subs loose funcs w)) span v (a ∷ alts) (otherwise_in o) c) (alternatives in_bare itself span v (choices_of tests.limit (alternative_trees z)) (last_of l.last) (erased c))) (ok_ok (x.value ∷ r.value) xs r.then)
      (λ q. let p = then_ok (where_condition x.value.condition) (where_conditions r.value) tt q in
      alternative_same j b span v T (out-Alternative a) x.value (alternatives frames (choice_in (env tests right ds base subs loose funcs w)) span v alts (otherwise_in o)) (alternatives in_bare itself span v (choices_of tests.limit (alternative_trees r.value)) (last_of l.last)) c
      (sym (ap (λ z. alternative_rule tests z T j.body) u) ∙ x.first) p.first of_type i held names (λ z. f (or_first (alternative_fallen a) (any_falls (map alternative_fallen alts)) (y ∙ z)))
      (λ c1 m. alternatives_same j b span v T alts r.value o l c1 r.first p.then g of_type i m names (λ z. f (or_second (alternative_fallen a) (any_falls (map alternative_fallen alts)) z)) n)) k

  pub case_acted : (j : StmtClaim) (span : Span) (e : Expr) (alts : List Alternative) (o : Otherwise) (c : Core) → case_rule tests span e (map (found_alternative tests) alts) (found_otherwise tests o) j.body ≡ Ok j.done → HeldAt j c → Acted tests right ds base subs loose funcs w j (any_falls (map alternative_fallen alts) || otherwise_fallen o) (st.Case span e alts o) c
  case_acted j span e alts o c h held =
      let t = bind_ok (operand_of tests e j.body.scope) _ j.done h in
      let xs = bind_ok (alternatives_rule tests (map (found_alternative tests) alts) t.value.typed.ty j.body) _ j.done t.then in
      let l = bind_ok (last_block (found_otherwise tests o) j.body) _ j.done xs.then in
      let p = then_ok (where_conditions xs.value) _ j.done l.then in
      let S = t.value.typed in
      let k = greater (greater S.effect (alternative_effects xs.value)) l.value.effect in
      let act : Act = tree.Case span S.tree (alternative_trees xs.value) l.value.last in
      let b = any_falls (map alternative_fallen alts) || otherwise_fallen o in
      let G = j.body.scope in
      acted tests right ds base subs loose funcs w j b (st.Case span e alts o) c (done G.names k act) (ended_is G.class span true k G.names act j.done p.then) refl
      (λ i. let names = ap (λ (z : Done). z.names) i in
      operand tests right base subs loose (spot j) (OutAct tests right ds base subs loose funcs w j b) e S c (λ v c1. alternatives frames (choice_in (env tests right ds base subs loose funcs w)) span v alts (otherwise_in o) c1) (λ v c1. alternatives in_bare itself span v (choices_of tests.limit (alternative_trees xs.value)) (last_of l.value.last) c1) (operand_typed tests e G t.value t.first) held.at
      (λ v c1 y a. alternatives_same j b span v S.ty alts xs.value o l.value c1 xs.first p.first l.first (formed_at j c held e S (operand_typed tests e G t.value t.first)).shaped y (moved tests right ds base subs loose funcs w j c c1 held a) names (or_first (any_falls (map alternative_fallen alts)) (otherwise_fallen o)) (or_second (any_falls (map alternative_fallen alts)) (otherwise_fallen o))))
