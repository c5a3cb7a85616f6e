-- `if` and loops without an index with their typed trees.
use Rattle.std.proofs.Common.{◌≡◌, ℕ, zero, suc, Bool, true, ◌||◌, List, [], ◌∷◌, map, Option, Some, None, Ok, refl, sym, ap, ◌∙◌, subst}
use Rattle.asl_syn.specs.declared.token.Span.{Span}
use Rattle.asl_syn.specs.declared.code.StaticCode.TheVariants.{T05}
use Rattle.asl_syn.specs.declared.tree.Expr.{Expr}
use Rattle.asl_syn.specs.declared.tree.Stmt.{Stmt}
use Rattle.asl_syn.specs.declared.tree.Alternative.{Alternative}
use Rattle.asl_syn.specs.declared.tree.Catcher.{Catcher}
use Rattle.asl_syn.specs.declared.tree.Otherwise.{Otherwise}
use Rattle.asl_syn.specs.declared.tree.ElseIf.{ElseIf, out-ElseIf}
use Rattle.asl_syn.specs.declared.tree.Alternative.TheOpen as st
use Rattle.asl_syn.specs.declared.tree.Alternative.TheFolds.{fold-Alternative, fold-Catcher, fold-ElseIf, fold-Otherwise, fold_out-ElseIf, map-ElseIf}
use Rattle.asl_syn.specs.declared.tree.Decl.{Decl}
use Rattle.asl_rules.specs.declared.effect.Effect.TheVariants.{Pure}
use Rattle.asl_rules.specs.Tests.{Tests, IsRight}
use Rattle.asl_rules.specs.types.Types.{is_integer}
use Rattle.asl_rules.specs.types.Closed.{Assignment}
use Rattle.asl_rules.specs.types.Effects.{greater}
use Rattle.asl_rules.specs.declarations.Scopes.{Entry, Signature, with_class}
use Rattle.asl_rules.specs.runs.Trees as tree
use Rattle.asl_rules.specs.runs.Trees.{Tree, Act, TreeFunc}
use Rattle.asl_rules.specs.expressions.Typing.{Operand}
use Rattle.asl_rules.specs.statements.Acting.{Done, FoundStmt, FoundOtherwise, Listed, done, block, operand_of, condition}
use Rattle.asl_rules.specs.statements.Branches.{FoundBranch, FoundAlternative, FoundCatcher, TypedBranch, branch_rule, branches as branches_rule, branch_conditions, branch_effect, branch_effects, branch_trees, if_rule, tree_in, limit_typed, limit_fits, while_rule, repeat_rule}
use Rattle.asl_rules.specs.statements.Stmts.{found_stmt, stmt_layer_rule, alternative_found, catcher_found, branch_found, otherwise_found}
use Rattle.asl_rules.specs.statements.Falling.{falls, falls_through, all_fall, any_falls, falls_layer, alternative_falls, catcher_falls, branch_falls, otherwise_falls}
use Rattle.asl_rules.specs.values.Values.{Value, Exit, Normal, Returned}
use Rattle.asl_rules.specs.runs.States.{Core}
use Rattle.asl_rules.specs.private.Agreement.{types_in, Agrees, SameOn}
use Rattle.asl_rules.specs.runs.Plans.{Raise, lift}
use Rattle.asl_rules.specs.runs.StatementForms.{go_on, scope, asked, branch, branches, done_normal, whole_number, turns_in, limited, while_turn, repeat_turn}
use Rattle.asl_rules.specs.runs.Limits.{most_turns}
use Rattle.asl_rules.specs.runs.Evaluation.{Does, frames, branch_layer, branch_in}
use Rattle.asl_rules.specs.private.TypedMeaning.{BareCore, Runs, in_bare, acts_of, branches_of, itself}
use Rattle.asl_rules.specs.private.Erasure.{erased}
use Rattle.asl_rules.proofs.basics.Inversions.{ok_ok, bind_ok, then_ok, need_ok}
use Rattle.asl_rules.proofs.basics.Tests.{or_first, or_second}
use Rattle.asl_rules.proofs.expressions.OperatorForms.{is_int}
use Rattle.asl_rules.proofs.scopes.Naming.{WellNamed}
use Rattle.asl_laws.proofs.expressions.Twins.{Twins, twins_weaker}
use Rattle.asl_laws.proofs.expressions.Claims.{Here, StmtClaim, At, Ends, our, around_of}
use Rattle.asl_laws.proofs.expressions.Standing.{stands_lesser, thrown_lesser}
use Rattle.asl_laws.proofs.expressions.TreePlans.{Throws, operand_in}
use Rattle.asl_rules.proofs.scopes.Longer.{longer_self, same_on_both}
use Rattle.asl_laws.proofs.statements.StmtForms.{here, in_class, Held, OutAct, ActSame, Acted, acted, operand_typed, ended_is}
use Rattle.asl_laws.proofs.statements.ListForms.{moved, over_back, block_same, condition_same, fall_same}

module _ (tests : Tests) where
  abbrev found_branch : ElseIf → FoundBranch
  found_branch = fold-ElseIf FoundAlternative FoundCatcher FoundBranch FoundOtherwise FoundStmt alternative_found catcher_found branch_found otherwise_found (stmt_layer_rule tests)

  abbrev ElseIfLayer : Type 0
  ElseIfLayer = st.ElseIf-F Alternative Catcher ElseIf Otherwise Stmt

  abbrev branch_opened : ElseIfLayer → st.ElseIf-F FoundAlternative FoundCatcher FoundBranch FoundOtherwise FoundStmt
  branch_opened = map-ElseIf Alternative Catcher ElseIf Otherwise Stmt FoundAlternative FoundCatcher FoundBranch FoundOtherwise FoundStmt
      (fold-Alternative FoundAlternative FoundCatcher FoundBranch FoundOtherwise FoundStmt alternative_found catcher_found branch_found otherwise_found (stmt_layer_rule tests))
      (fold-Catcher FoundAlternative FoundCatcher FoundBranch FoundOtherwise FoundStmt alternative_found catcher_found branch_found otherwise_found (stmt_layer_rule tests))
      found_branch
      (fold-Otherwise FoundAlternative FoundCatcher FoundBranch FoundOtherwise FoundStmt alternative_found catcher_found branch_found otherwise_found (stmt_layer_rule tests))
      (found_stmt tests)

abbrev branch_fallen : ElseIf → Bool
branch_fallen = fold-ElseIf Bool Bool Bool Bool Bool alternative_falls catcher_falls branch_falls otherwise_falls falls_layer

abbrev fallen_opened : st.ElseIf-F Alternative Catcher ElseIf Otherwise Stmt → st.ElseIf-F Bool Bool Bool Bool Bool
fallen_opened = map-ElseIf Alternative Catcher ElseIf Otherwise Stmt Bool Bool Bool Bool Bool
    (fold-Alternative Bool Bool Bool Bool Bool alternative_falls catcher_falls branch_falls otherwise_falls falls_layer)
    (fold-Catcher Bool Bool Bool Bool Bool alternative_falls catcher_falls branch_falls otherwise_falls falls_layer)
    branch_fallen
    (fold-Otherwise Bool Bool Bool Bool Bool alternative_falls catcher_falls branch_falls otherwise_falls falls_layer)
    falls

module _ (tests : Tests) (right : IsRight tests) (ds : List Decl) (base : List Entry) (subs : List Signature) (loose : Bool) (funcs : List TreeFunc) (w : WellNamed base) where
  abbrev HeldAt : StmtClaim → Core → Type 0
  HeldAt j c = Held tests right ds base subs loose funcs w j c

  abbrev Both : StmtClaim → Bool → Does Exit → Runs Exit → Type 0
  Both j b p q = ActSame tests right ds base subs loose funcs w j b p q

  abbrev spot : StmtClaim → Here
  spot j = here tests right ds base subs loose funcs w j

  abbrev Out : StmtClaim → Bool → Exit → Exit → Core → Type 0
  Out j b = OutAct tests right ds base subs loose funcs w j b

  abbrev Flies : StmtClaim → Value → Core → Type 0
  Flies j = Throws tests right base subs loose (spot j)

  -- ---- `if`

  branch_same : (j : StmtClaim) (b : Bool) (span : Span) (e : Expr) (ss : List Stmt) (x : TypedBranch) (rest : Core → Does Exit) (others : BareCore → Runs Exit) (c : Core) → branch_rule tests e (map (found_stmt tests) ss) j.body ≡ Ok x → condition x.condition ≡ Ok tt → HeldAt j c → j.body.scope.names ≡ j.done.names → (falls_through ss ≡ true → b ≡ true) →
      ((c1 : Core) → HeldAt j c1 → Both j b (rest c1) (others (erased c1))) → Both j b (branch frames span e ss rest c) (branch in_bare span x.condition.typed.tree (acts_of x.body.acts) others (erased c))
  branch_same j b span e ss x rest others c h k held names f next =
      let t = bind_ok (operand_of tests e j.body.scope) _ x h in
      let u = bind_ok (block (map (found_stmt tests) ss) j.body) _ x t.then in
      subst (λ (z : TypedBranch). condition z.condition ≡ Ok tt → Both j b (branch frames span e ss rest c) (branch in_bare span z.condition.typed.tree (acts_of z.body.acts) others (erased c))) (ok_ok (record { condition = t.value; body = u.value }) x u.then)
      (λ g. condition_same tests right ds base subs loose funcs w j (Out j b) span e t.value c (scope frames ss) rest (scope in_bare (acts_of u.value.acts)) others t.first g held.at
      (λ c1 a. block_same tests right ds base subs loose funcs w j b u.value ss c1 u.first (moved tests right ds base subs loose funcs w j c c1 held a) names f) (λ c1 a. next c1 (moved tests right ds base subs loose funcs w j c c1 held a))) k

  layer_same : (j : StmtClaim) (b : Bool) (span : Span) (l : ElseIfLayer tests) (x : TypedBranch) (rest : Core → Does Exit) (others : BareCore → Runs Exit) (c : Core) → branch_rule tests (branch_found (branch_opened tests l)).condition (branch_found (branch_opened tests l)).body j.body ≡ Ok x → condition x.condition ≡ Ok tt → HeldAt j c → j.body.scope.names ≡ j.done.names →
      (branch_falls (fallen_opened l) ≡ true → b ≡ true) → ((c1 : Core) → HeldAt j c1 → Both j b (rest c1) (others (erased c1))) → Both j b (branch frames span (branch_layer l).condition (branch_layer l).body rest c) (branch in_bare span x.condition.typed.tree (acts_of x.body.acts) others (erased c))
  layer_same j b span (st.ElseIf e ss) x rest others c h k held names f next = branch_same j b span e ss x rest others c h k held names (λ g. f (fall_same ss ∙ g)) next

  branches_same : (j : StmtClaim) (b : Bool) (span : Span) (es : List ElseIf) (bs : List TypedBranch) (l : Listed) (last : List Stmt) (c : Core) → branches_rule tests (map (found_branch tests) es) j.body ≡ Ok bs → branch_conditions bs ≡ Ok tt → block (map (found_stmt tests) last) j.body ≡ Ok l → HeldAt j c → j.body.scope.names ≡ j.done.names →
      (any_falls (map branch_fallen es) ≡ true → b ≡ true) → (falls_through last ≡ true → b ≡ true) → Both j b (branches frames branch_in span es last c) (branches in_bare itself span (branches_of (branch_trees bs)) (acts_of l.acts) (erased c))
  branches_same j b span [] bs l last c h k g held names f m =
      subst (λ z. Both j b (branches frames branch_in span [] last c) (branches in_bare itself span (branches_of (branch_trees z)) (acts_of l.acts) (erased c))) (ok_ok [] bs h) (block_same tests right ds base subs loose funcs w j b l last c g held names m)
  branches_same j b span (e ∷ es) bs l last c h k g held names f m =
      let x = bind_ok (branch_rule tests (found_branch tests e).condition (found_branch tests e).body j.body) _ bs h in
      let xs = bind_ok (branches_rule tests (map (found_branch tests) es) j.body) _ bs x.then in
      let u : found_branch tests e ≡ branch_found (branch_opened tests (out-ElseIf e)) = fold_out-ElseIf FoundAlternative FoundCatcher FoundBranch FoundOtherwise FoundStmt alternative_found catcher_found branch_found otherwise_found (stmt_layer_rule tests) e in
      let v : branch_fallen e ≡ branch_falls (fallen_opened (out-ElseIf e)) = fold_out-ElseIf Bool Bool Bool Bool Bool alternative_falls catcher_falls branch_falls otherwise_falls falls_layer e in
      subst (λ z. branch_conditions z ≡ Ok tt → Both j b (branches frames branch_in span (e ∷ es) last c) (branches in_bare itself span (branches_of (branch_trees z)) (acts_of l.acts) (erased c))) (ok_ok (x.value ∷ xs.value) bs xs.then)
      (λ q. let y = then_ok (condition x.value.condition) (branch_conditions xs.value) tt q in
      layer_same j b span (out-ElseIf e) x.value (branches frames branch_in span es last) (branches in_bare itself span (branches_of (branch_trees xs.value)) (acts_of l.acts)) c
      (sym (ap (λ (z : FoundBranch). branch_rule tests z.condition z.body j.body) u) ∙ x.first) y.first held names
      (λ i. f (or_first (branch_fallen e) (any_falls (map branch_fallen es)) (v ∙ i)))
      (λ c1 a. branches_same j b span es xs.value l last c1 xs.first y.then g a names (λ i. f (or_second (branch_fallen e) (any_falls (map branch_fallen es)) i)) m)) k

  pub if_acted : (j : StmtClaim) (b : Bool) (span : Span) (e : Expr) (ss : List Stmt) (es : List ElseIf) (last : List Stmt) (c : Core) → b ≡ (all_fall (map falls ss) || (any_falls (map branch_fallen es) || all_fall (map falls last))) → if_rule tests span e (map (found_stmt tests) ss) (map (found_branch tests) es) (map (found_stmt tests) last) j.body ≡ Ok j.done → HeldAt j c → Acted tests right ds base subs loose funcs w j b (st.If span e ss es last) c
  if_acted j b span e ss es last c fb h held =
      let x = bind_ok (branch_rule tests e (map (found_stmt tests) ss) j.body) _ j.done h in
      let xs = bind_ok (branches_rule tests (map (found_branch tests) es) j.body) _ j.done x.then in
      let l = bind_ok (block (map (found_stmt tests) last) j.body) _ j.done xs.then in
      let p = then_ok (condition x.value.condition) _ j.done l.then in
      let q = then_ok (branch_conditions xs.value) _ j.done p.then in
      let k = greater (greater (branch_effect x.value) (branch_effects xs.value)) l.value.effect in
      let act : Act = tree.If span x.value.condition.typed.tree x.value.body.acts (branch_trees xs.value) l.value.acts in
      let G = j.body.scope in
      acted tests right ds base subs loose funcs w j b (st.If span e ss es last) c (done G.names k act) (ended_is G.class span true k G.names act j.done q.then) refl
      (λ i. let names = ap (λ (z : Done). z.names) i in
      branch_same j b span e ss x.value (branches frames branch_in span es last) (branches in_bare itself span (branches_of (branch_trees xs.value)) (acts_of l.value.acts)) c x.first p.first held names
      (λ f. fb ∙ or_first (all_fall (map falls ss)) (any_falls (map branch_fallen es) || all_fall (map falls last)) (fall_same ss ∙ f))
      (λ c1 a. branches_same j b span es xs.value l.value last c1 xs.first q.first l.first a names
      (λ f. fb ∙ or_second (all_fall (map falls ss)) (any_falls (map branch_fallen es) || all_fall (map falls last)) (or_first (any_falls (map branch_fallen es)) (all_fall (map falls last)) f))
      (λ f. fb ∙ or_second (all_fall (map falls ss)) (any_falls (map branch_fallen es) || all_fall (map falls last)) (or_second (any_falls (map branch_fallen es)) (all_fall (map falls last)) (fall_same last ∙ f)))))

  -- ---- turns

  abbrev pub later_on : StmtClaim → Assignment → StmtClaim
  later_on j later = record { body = j.body; done = j.done; present = later; params = j.params; around = j.around }

  pub held_later : (j : StmtClaim) (later : Assignment) (c c1 : Core) → HeldAt j c → SameOn j.body.scope.names j.present later → Agrees base j.body.scope.names later c1 → around_of c1 ≡ j.around → HeldAt (later_on j later) c1
  held_later j later c c1 k s a h = record {
    at = record { agrees = a; subs_are = k.at.subs_are; around_is = h; stands = k.at.stands; counted = k.at.counted };
    subs_formed = k.subs_formed;
    formed = k.formed;
    result_is = λ b e. k.result_is b (same_on_both j.body.scope.names j.present later b s e);
    handles = k.handles;
    scope_good = k.scope_good;
    body_is = k.body_is;
  }

  out_back : (j : StmtClaim) (b : Bool) (later : Assignment) → SameOn j.body.scope.names j.present later → (x y : Exit) (c : Core) → Out (later_on j later) b x y c → Out j b x y c
  out_back j b later s Normal y c o = (o.0, record { reached = o.1.reached; later = o.1.later; same = same_on_both j.body.scope.names j.present later o.1.later s o.1.same; agrees = o.1.agrees; around_is = o.1.around_is })
  out_back j b later s (Returned v) y c o = (o.0, record { gives = o.1.gives; more = o.1.more; later = o.1.later; agrees = o.1.agrees; around_is = o.1.around_is })

  -- what is claimed at a later assignment
  pub brought_back : (j : StmtClaim) (b : Bool) (later : Assignment) (p : Does Exit) (q : Runs Exit) → SameOn j.body.scope.names j.present later → Both (later_on j later) b p q → Both j b p q
  brought_back j b later p q s t =
      twins_weaker (our tests base subs loose) (Out (later_on j later) b) (Out j b) (Flies (later_on j later)) (Flies j) (out_back j b later s)
      (λ x c o. over_back tests right ds base subs loose funcs w j j.body.scope.names later x c (longer_self j.body.scope.names) s o) p q t

  after_end : (j : StmtClaim) (go : Core → Does Exit) (run_on : BareCore → Runs Exit) (c : Core) → HeldAt j c → j.body.scope.names ≡ j.done.names → ((later : Assignment) (c1 : Core) → SameOn j.body.scope.names j.present later → HeldAt (later_on j later) c1 → Both (later_on j later) true (go c1) (run_on (erased c1))) →
      (x : Exit) (c1 : Core) → Ends tests base subs loose j true x c1 → Both j true (go_on x c1 go) (go_on x (erased c1) run_on)
  after_end j go run_on c held names next Normal c1 e =
      brought_back j true e.later (go c1) (run_on (erased c1)) e.same (next e.later c1 e.same (held_later j e.later c c1 held e.same (subst (λ ns. Agrees base ns e.later c1) (sym names) e.agrees) e.around_is))
  after_end j go run_on c held names next (Returned o) c1 e = (refl, (refl, e))

  -- something with what comes behind it, at later assignments
  pub after_same : (j : StmtClaim) (go : Core → Does Exit) (run_on : BareCore → Runs Exit) (p : Does Exit) (q : Runs Exit) (c : Core) → HeldAt j c → j.body.scope.names ≡ j.done.names →
      ((later : Assignment) (c1 : Core) → SameOn j.body.scope.names j.present later → HeldAt (later_on j later) c1 → Both (later_on j later) true (go c1) (run_on (erased c1))) → Both j true p q →
      Twins (our tests base subs loose) (λ x y c1. Both j true (go_on x c1 go) (go_on y (erased c1) run_on)) (λ x c1. Both j true (Raise x c1) (Raise x (erased c1))) p q
  after_same j go run_on p q c held names next s =
      twins_weaker (our tests base subs loose) (Out j true) (λ x y c1. Both j true (go_on x c1 go) (go_on y (erased c1) run_on)) (Flies j) (λ x c1. Both j true (Raise x c1) (Raise x (erased c1)))
      (λ x y c1 o. subst (λ z. Both j true (go_on x c1 go) (go_on z (erased c1) run_on)) o.0 (after_end j go run_on c held names next x c1 o.1))
      (λ x c1 o. (refl, refl, o)) p q s

  -- a list with what comes behind it, at later assignments
  pub turn_same : (j : StmtClaim) (l : Listed) (ss : List Stmt) (go : Core → Does Exit) (run_on : BareCore → Runs Exit) (c : Core) → block (map (found_stmt tests) ss) j.body ≡ Ok l → HeldAt j c → j.body.scope.names ≡ j.done.names →
      ((later : Assignment) (c1 : Core) → HeldAt (later_on j later) c1 → Both (later_on j later) true (go c1) (run_on (erased c1))) →
      Twins (our tests base subs loose) (λ x y c1. Both j true (go_on x c1 go) (go_on y (erased c1) run_on)) (λ x c1. Both j true (Raise x c1) (Raise x (erased c1))) (scope frames ss c) (scope in_bare (acts_of l.acts) (erased c))
  turn_same j l ss go run_on c h held names next =
      after_same j go run_on (scope frames ss c) (scope in_bare (acts_of l.acts) (erased c)) c held names (λ later c1 s k. next later c1 k) (block_same tests right ds base subs loose funcs w j true l ss c h held names (λ f. refl))

  pub normal_end : (j : StmtClaim) (c : Core) → At tests base subs loose (spot j) c → j.body.scope.names ≡ j.done.names → Both j true (done_normal c) (done_normal (erased c))
  normal_end j c a names = (refl, (refl, record { reached = refl; later = j.present; same = λ n b. refl; agrees = subst (λ ns. Agrees base ns j.present c) names a.agrees; around_is = a.around_is }))

  while_turn_same : (n : ℕ) (j : StmtClaim) (span : Span) (e : Expr) (o : Operand) (l : Listed) (ss : List Stmt) (c : Core) → operand_of tests e j.body.scope ≡ Ok o → condition o ≡ Ok tt → block (map (found_stmt tests) ss) j.body ≡ Ok l → HeldAt j c → j.body.scope.names ≡ j.done.names →
      Both j true (while_turn frames span e ss n c) (while_turn in_bare span o.typed.tree (acts_of l.acts) n (erased c))
  while_turn_same zero j span e o l ss c h k g held names = (refl, refl, held.at.agrees.globals)
  while_turn_same (suc n) j span e o l ss c h k g held names =
      turn_same j l ss (λ c2. asked span e c2 (while_turn frames span e ss n) done_normal) (λ c2. asked span o.typed.tree c2 (while_turn in_bare span o.typed.tree (acts_of l.acts) n) done_normal) c g held names
      (λ later c1 a. condition_same tests right ds base subs loose funcs w (later_on j later) (Out (later_on j later) true) span e o c1 (while_turn frames span e ss n) done_normal (while_turn in_bare span o.typed.tree (acts_of l.acts) n) done_normal h k a.at
      (λ c2 i. while_turn_same n (later_on j later) span e o l ss c2 h k g (moved tests right ds base subs loose funcs w (later_on j later) c1 c2 a i) names)
      (λ c2 i. normal_end (later_on j later) c2 i names))

  repeat_turn_same : (n : ℕ) (j : StmtClaim) (span : Span) (e : Expr) (o : Operand) (l : Listed) (ss : List Stmt) (c : Core) → operand_of tests e j.body.scope ≡ Ok o → condition o ≡ Ok tt → block (map (found_stmt tests) ss) j.body ≡ Ok l → HeldAt j c → j.body.scope.names ≡ j.done.names →
      Both j true (repeat_turn frames span e ss n c) (repeat_turn in_bare span o.typed.tree (acts_of l.acts) n (erased c))
  repeat_turn_same zero j span e o l ss c h k g held names = (refl, refl, held.at.agrees.globals)
  repeat_turn_same (suc n) j span e o l ss c h k g held names =
      turn_same j l ss (λ c2. asked span e c2 done_normal (repeat_turn frames span e ss n)) (λ c2. asked span o.typed.tree c2 done_normal (repeat_turn in_bare span o.typed.tree (acts_of l.acts) n)) c g held names
      (λ later c1 a. condition_same tests right ds base subs loose funcs w (later_on j later) (Out (later_on j later) true) span e o c1 done_normal (repeat_turn frames span e ss n) done_normal (repeat_turn in_bare span o.typed.tree (acts_of l.acts) n) h k a.at
      (λ c2 i. normal_end (later_on j later) c2 i names)
      (λ c2 i. repeat_turn_same n (later_on j later) span e o l ss c2 h k g (moved tests right ds base subs loose funcs w (later_on j later) c1 c2 a i) names))

  -- ---- limits of loops

  pub limit_same : (j : StmtClaim) (span : Span) (e : Option Expr) (l : Option Operand) (c : Core) (go : ℕ → Core → Does Exit) (run_on : ℕ → BareCore → Runs Exit) → limit_typed tests e j.body.scope ≡ Ok l → limit_fits l ≡ Ok tt → HeldAt j c →
      ((n : ℕ) (c1 : Core) → HeldAt j c1 → Both j true (go n c1) (run_on n (erased c1))) → Both j true (limited span e c go) (limited span (tree_in l) (erased c) run_on)
  limit_same j span None l c go run_on h k held next = subst (λ z. Both j true (limited span None c go) (limited span (tree_in z) (erased c) run_on)) (ok_ok None l h) (next most_turns c held)
  limit_same j span (Some e) l c go run_on h k held next =
      let o = bind_ok (operand_of tests e (with_class j.body.scope Pure)) _ l h in
      let H = in_class tests right ds base subs loose funcs w (spot j) (with_class j.body.scope Pure) in
      let S = o.value.typed in
      subst (λ z. limit_fits z ≡ Ok tt → Both j true (limited span (Some e) c go) (limited span (tree_in z) (erased c) run_on)) (ok_ok (Some o.value) l o.then)
      (λ f. operand_in tests right base subs loose (spot j) H (Out j true) e S c (λ x c1. lift (whole_number span x) c1 (λ z. go (turns_in z) c1)) (λ x c1. lift (whole_number span x) c1 (λ z. run_on (turns_in z) c1)) (operand_typed tests e (with_class j.body.scope Pure) o.value o.first)
      (record { agrees = held.at.agrees; subs_are = held.at.subs_are; around_is = held.at.around_is; stands = stands_lesser tests base subs loose Pure j.body.scope.class j.around refl held.at.stands; counted = held.at.counted })
      (λ x c1 t. thrown_lesser tests base subs loose Pure j.body.scope.class j.body.scope.names j.present j.around x c1 refl t)
      (λ x c1 i a.
      let z = is_int (types_in base) j.present tests right S.ty x (need_ok (is_integer S.ty) T05 o.value.span tt f) i in
      subst (λ y. Both j true (lift (whole_number span y) c1 (λ n. go (turns_in n) c1)) (lift (whole_number span y) (erased c1) (λ n. run_on (turns_in n) (erased c1)))) (sym z.1)
      (next (turns_in z.0) c1 (moved tests right ds base subs loose funcs w j c c1 held (record { agrees = a.agrees; subs_are = a.subs_are; around_is = a.around_is; stands = held.at.stands; counted = held.at.counted }))))) k

  pub while_acted : (j : StmtClaim) (span : Span) (e : Expr) (limit : Option Expr) (ss : List Stmt) (c : Core) → while_rule tests span e limit (map (found_stmt tests) ss) j.body ≡ Ok j.done → HeldAt j c → Acted tests right ds base subs loose funcs w j true (st.While span e limit ss) c
  while_acted j span e limit ss c h held =
      let o = bind_ok (operand_of tests e j.body.scope) _ j.done h in
      let m = bind_ok (limit_typed tests limit j.body.scope) _ j.done o.then in
      let l = bind_ok (block (map (found_stmt tests) ss) j.body) _ j.done m.then in
      let p = then_ok (condition o.value) _ j.done l.then in
      let q = then_ok (limit_fits m.value) _ j.done p.then in
      let k = greater o.value.typed.effect l.value.effect in
      let act : Act = tree.While span o.value.typed.tree (tree_in m.value) l.value.acts in
      let G = j.body.scope in
      acted tests right ds base subs loose funcs w j true (st.While span e limit ss) c (done G.names k act) (ended_is G.class span true k G.names act j.done q.then) refl
      (λ i. let names = ap (λ (z : Done). z.names) i in
      limit_same j span limit m.value c (λ n c1. asked span e c1 (while_turn frames span e ss n) done_normal) (λ n c1. asked span o.value.typed.tree c1 (while_turn in_bare span o.value.typed.tree (acts_of l.value.acts) n) done_normal) m.first q.first held
      (λ n c1 a. condition_same tests right ds base subs loose funcs w j (Out j true) span e o.value c1 (while_turn frames span e ss n) done_normal (while_turn in_bare span o.value.typed.tree (acts_of l.value.acts) n) done_normal o.first p.first a.at
      (λ c2 b. while_turn_same n j span e o.value l.value ss c2 o.first p.first l.first (moved tests right ds base subs loose funcs w j c1 c2 a b) names)
      (λ c2 b. normal_end j c2 b names)))

  pub repeat_acted : (j : StmtClaim) (span : Span) (ss : List Stmt) (e : Expr) (limit : Option Expr) (c : Core) → repeat_rule tests span (map (found_stmt tests) ss) e limit j.body ≡ Ok j.done → HeldAt j c → Acted tests right ds base subs loose funcs w j true (st.Repeat span ss e limit) c
  repeat_acted j span ss e limit c h held =
      let l = bind_ok (block (map (found_stmt tests) ss) j.body) _ j.done h in
      let o = bind_ok (operand_of tests e j.body.scope) _ j.done l.then in
      let m = bind_ok (limit_typed tests limit j.body.scope) _ j.done o.then in
      let p = then_ok (condition o.value) _ j.done m.then in
      let q = then_ok (limit_fits m.value) _ j.done p.then in
      let k = greater o.value.typed.effect l.value.effect in
      let act : Act = tree.Repeat span l.value.acts o.value.typed.tree (tree_in m.value) in
      let G = j.body.scope in
      acted tests right ds base subs loose funcs w j true (st.Repeat span ss e limit) c (done G.names k act) (ended_is G.class span true k G.names act j.done q.then) refl
      (λ i. let names = ap (λ (z : Done). z.names) i in
      limit_same j span limit m.value c (repeat_turn frames span e ss) (repeat_turn in_bare span o.value.typed.tree (acts_of l.value.acts)) m.first q.first held
      (λ n c1 a. repeat_turn_same n j span e o.value l.value ss c1 o.first p.first l.first a names))
