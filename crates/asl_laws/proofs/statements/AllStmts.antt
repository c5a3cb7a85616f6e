-- All forms of statement with their typed trees, and so all nodes: where these pairs of forms do the same, each pair of a node and its typed tree does, however
-- many may be open.
use Rattle.std.proofs.Common.{◌≡◌, ℕ, Bool, true, ◌||◌, List, Option, Ok, refl, sym, ap, ◌∙◌, subst, map}
use Rattle.asl_syn.specs.declared.token.Span.{Span}
use Rattle.asl_syn.specs.declared.tree.Ident.{Ident}
use Rattle.asl_syn.specs.declared.tree.Expr.{Expr}
use Rattle.asl_syn.specs.declared.tree.TypeExpr.{TypeExpr}
use Rattle.asl_syn.specs.declared.tree.Binder.TheVariants.{Bound, Unbound}
use Rattle.asl_syn.specs.declared.tree.Bind.{Bind}
use Rattle.asl_syn.specs.declared.tree.Bind.TheVariants.{Single, Several}
use Rattle.asl_syn.specs.declared.tree.LocalKind.{LocalKind}
use Rattle.asl_syn.specs.declared.tree.Alternative.{Alternative}
use Rattle.asl_syn.specs.declared.tree.Catcher.{Catcher}
use Rattle.asl_syn.specs.declared.tree.ElseIf.{ElseIf}
use Rattle.asl_syn.specs.declared.tree.Otherwise.{Otherwise}
use Rattle.asl_syn.specs.declared.tree.Stmt.{Stmt, out-Stmt}
use Rattle.asl_syn.specs.declared.tree.Alternative.TheOpen as st
use Rattle.asl_syn.specs.declared.tree.Alternative.TheFolds.{fold-Alternative, fold-Catcher, fold-ElseIf, fold-Otherwise, fold_out-Stmt, map-Stmt}
use Rattle.asl_syn.specs.declared.tree.Decl.{Decl}
use Rattle.asl_syn.specs.Layers.{StmtLayer}
use Rattle.asl_rules.specs.Tests.{Tests, IsRight}
use Rattle.asl_rules.specs.declarations.Scopes.{Entry, Signature}
use Rattle.asl_rules.specs.runs.Trees.{TreeFunc, Act, tree_at, act_at}
use Rattle.asl_rules.specs.statements.Acting.{FoundStmt, FoundOtherwise}
use Rattle.asl_rules.specs.statements.Locals.{bind_rule}
use Rattle.asl_rules.specs.statements.Branches.{FoundBranch, FoundAlternative, FoundCatcher, try_rule}
use Rattle.asl_rules.specs.statements.Stmts.{StmtOf, invoke_rule, stmt_layer_rule, alternative_found, catcher_found, branch_found, otherwise_found, found_stmt}
use Rattle.asl_rules.specs.statements.Falling.{falls, falls_layer, any_falls, all_fall, alternative_falls, catcher_falls, branch_falls, otherwise_falls}
use Rattle.asl_rules.specs.runs.States.{Core}
use Rattle.asl_rules.specs.private.Agreement.{types_in}
use Rattle.asl_rules.specs.runs.Evaluation.{nodes, meaning}
use Rattle.asl_rules.specs.private.TypedMeaning.{tree_nodes, tree_meaning, tree_node, act_node}
use Rattle.asl_rules.specs.private.Erasure.{erased}
use Rattle.asl_rules.proofs.scopes.Naming.{WellNamed, well_declared}
use Rattle.asl_laws.proofs.scopes.WellTyped.{FormedSubs}
use Rattle.asl_laws.proofs.expressions.Twins.{Twins, Meets, Forms, twins}
use Rattle.asl_laws.proofs.runs.Several.{Singles, several_forms}
use Rattle.asl_laws.proofs.expressions.Claims.{GivesAsked, StmtClaim, At, StmtIn, Over, Ends, our_each, our}
use Rattle.asl_laws.proofs.expressions.TreePlans.{Same}
use Rattle.asl_laws.proofs.expressions.ExprForms.{env, program}
use Rattle.asl_laws.proofs.expressions.AllExprs.{Others, asked_formed}
use Rattle.asl_laws.proofs.statements.StmtForms.{Held, Acted, ActSame, pass_acted, unreachable_acted, assert_acted, return_acted, print_acted}
use Rattle.asl_laws.proofs.statements.BranchForms.{if_acted, while_acted, repeat_acted}
use Rattle.asl_laws.proofs.statements.ForForms.{for_acted}
use Rattle.asl_laws.proofs.statements.DeclareForms.{single_acted, none_acted}
use Rattle.asl_laws.proofs.statements.TupleForms.{several_acted}
use Rattle.asl_laws.proofs.statements.VarForms.{vars_acted}
use Rattle.asl_laws.proofs.statements.ThrowForms.{throw_acted}
use Rattle.asl_laws.proofs.statements.AssignActs.{assign_acted}
use Rattle.asl_laws.proofs.statements.CaseForms.{case_acted}

module _ (tests : Tests) where
  abbrev pub found_alternative : Alternative → FoundAlternative
  found_alternative = fold-Alternative FoundAlternative FoundCatcher FoundBranch FoundOtherwise FoundStmt alternative_found catcher_found branch_found otherwise_found (stmt_layer_rule tests)

  abbrev pub found_catcher : Catcher → FoundCatcher
  found_catcher = fold-Catcher FoundAlternative FoundCatcher FoundBranch FoundOtherwise FoundStmt alternative_found catcher_found branch_found otherwise_found (stmt_layer_rule tests)

  abbrev pub found_branch : ElseIf → FoundBranch
  found_branch = fold-ElseIf FoundAlternative FoundCatcher FoundBranch FoundOtherwise FoundStmt alternative_found catcher_found branch_found otherwise_found (stmt_layer_rule tests)

  abbrev pub found_otherwise : Otherwise → FoundOtherwise
  found_otherwise = fold-Otherwise FoundAlternative FoundCatcher FoundBranch FoundOtherwise FoundStmt alternative_found catcher_found branch_found otherwise_found (stmt_layer_rule tests)

  abbrev pub opened : StmtLayer → StmtOf
  opened = map-Stmt Alternative Catcher ElseIf Otherwise Stmt FoundAlternative FoundCatcher FoundBranch FoundOtherwise FoundStmt found_alternative found_catcher found_branch found_otherwise (found_stmt tests)

abbrev pub alternative_fallen : Alternative → Bool
alternative_fallen = fold-Alternative Bool Bool Bool Bool Bool alternative_falls catcher_falls branch_falls otherwise_falls falls_layer

abbrev pub catcher_fallen : Catcher → Bool
catcher_fallen = fold-Catcher Bool Bool Bool Bool Bool alternative_falls catcher_falls branch_falls otherwise_falls falls_layer

abbrev pub branch_fallen : ElseIf → Bool
branch_fallen = fold-ElseIf Bool Bool Bool Bool Bool alternative_falls catcher_falls branch_falls otherwise_falls falls_layer

abbrev pub otherwise_fallen : Otherwise → Bool
otherwise_fallen = fold-Otherwise Bool Bool Bool Bool Bool alternative_falls catcher_falls branch_falls otherwise_falls falls_layer

abbrev fallen : StmtLayer → st.Stmt-F Bool Bool Bool Bool Bool
fallen = map-Stmt Alternative Catcher ElseIf Otherwise Stmt Bool Bool Bool Bool Bool alternative_fallen catcher_fallen branch_fallen otherwise_fallen falls

module _ (tests : Tests) (right : IsRight tests) (ds : List Decl) (base : List Entry) (subs : List Signature) (loose : Bool) (funcs : List TreeFunc) (w : WellNamed base) where
  abbrev Starts : StmtClaim → Core → Type 0
  Starts j c = Held tests right ds base subs loose funcs w j c

  abbrev Does_so : StmtClaim → Bool → StmtLayer → Core → Type 0
  Does_so j b layer c = Acted tests right ds base subs loose funcs w j b layer c

  -- the forms whose proofs stand elsewhere
  pub record OtherStmts : Type 0 where
    pub invoke : (j : StmtClaim) (s : Stmt) (span : Span) (i : Ident) (ps es : List Expr) (c : Core) → found_stmt tests s j.body ≡ Ok j.done → invoke_rule tests span i ps es j.body.scope ≡ Ok j.done → Starts j c → Does_so j true (st.Invoke span i ps es) c
    pub try : (j : StmtClaim) (span : Span) (ss : List Stmt) (cs : List Catcher) (o : Otherwise) (c : Core) → try_rule span (map (found_stmt tests) ss) (map (found_catcher tests) cs) (found_otherwise tests o) j.body ≡ Ok j.done → Starts j c → Does_so j (all_fall (map falls ss) || (any_falls (map catcher_fallen cs) || otherwise_fallen o)) (st.Try span ss cs o) c

  local_acted : (j : StmtClaim) (span : Span) (kind : LocalKind) (b : Bind) (ty : Option TypeExpr) (e : Expr) (c : Core) → bind_rule tests span kind b ty e j.body.scope ≡ Ok j.done → Starts j c → Does_so j true (st.Local span kind b ty e) c
  local_acted j span kind (Single (Bound i)) ty e c h k = single_acted tests right ds base subs loose funcs w j span kind i ty e c h k
  local_acted j span kind (Single (Unbound at)) ty e c h k = none_acted tests right ds base subs loose funcs w j span kind at ty e c h k
  local_acted j span kind (Several at bs) ty e c h k = several_acted tests right ds base subs loose funcs w j span kind at bs ty e c h k

  layer_acted : OtherStmts → (j : StmtClaim) (s : Stmt) (layer : StmtLayer) (c : Core) → found_stmt tests s j.body ≡ Ok j.done → stmt_layer_rule tests (opened tests layer) j.body ≡ Ok j.done → Starts j c → Does_so j (falls_layer (fallen layer)) layer c
  layer_acted o j s (st.Pass span) c f h k = pass_acted tests right ds base subs loose funcs w j span c h k
  layer_acted o j s (st.Unreachable span) c f h k = unreachable_acted tests right ds base subs loose funcs w j _ span c h k
  layer_acted o j s (st.Assert span e) c f h k = assert_acted tests right ds base subs loose funcs w j span e c h k
  layer_acted o j s (st.Local span kind b ty e) c f h k = local_acted j span kind b ty e c h k
  layer_acted o j s (st.LocalVars span is ty) c f h k = vars_acted tests right ds base subs loose funcs w j span is ty c h k
  layer_acted o j s (st.Assign span x e) c f h k = assign_acted tests right ds base subs loose funcs w j span x e c h k
  layer_acted o j s (st.Invoke span i ps es) c f h k = o.invoke j s span i ps es c f h k
  layer_acted o j s (st.If span e ss es last) c f h k = if_acted tests right ds base subs loose funcs w j _ span e ss es last c refl h k
  layer_acted o j s (st.Case span e alts last) c f h k = case_acted tests right ds base subs loose funcs w j span e alts last c h k
  layer_acted o j s (st.For span i a d b limit ss) c f h k = for_acted tests right ds base subs loose funcs w j span i a d b limit ss c h k
  layer_acted o j s (st.While span e limit ss) c f h k = while_acted tests right ds base subs loose funcs w j span e limit ss c h k
  layer_acted o j s (st.Repeat span ss e limit) c f h k = repeat_acted tests right ds base subs loose funcs w j span ss e limit c h k
  layer_acted o j s (st.Return span e) c f h k = return_acted tests right ds base subs loose funcs w j span e c h k
  layer_acted o j s (st.Throw span e) c f h k = throw_acted tests right ds base subs loose funcs w j _ span e c h k
  layer_acted o j s (st.Try span ss cs last) c f h k = o.try j span ss cs last c h k
  layer_acted o j s (st.Print span kind is) c f h k = print_acted tests right ds base subs loose funcs w j span kind is c h k

  pub stmt_acted : OtherStmts → (j : StmtClaim) (s : Stmt) (c : Core) → found_stmt tests s j.body ≡ Ok j.done → Starts j c → Does_so j (falls s) (out-Stmt s) c
  stmt_acted o j s c h k =
      let u : found_stmt tests s ≡ stmt_layer_rule tests (opened tests (out-Stmt s)) = fold_out-Stmt FoundAlternative FoundCatcher FoundBranch FoundOtherwise FoundStmt alternative_found catcher_found branch_found otherwise_found (stmt_layer_rule tests) s in
      let v : falls s ≡ falls_layer (fallen (out-Stmt s)) = fold_out-Stmt Bool Bool Bool Bool Bool alternative_falls catcher_falls branch_falls otherwise_falls falls_layer s in
      subst (λ b. Does_so j b (out-Stmt s) c) (sym v) (layer_acted o j s (out-Stmt s) c h (sym (ap (λ (f : FoundStmt). f j.body) u) ∙ h) k)

module _ (tests : Tests) (right : IsRight tests) (ds : List Decl) (base : List Entry) (subs : List Signature) (loose : Bool) (funcs : List TreeFunc) (w : WellNamed base) (s : FormedSubs tests right (types_in base) (well_declared base w) subs) where
  held_in : (j : StmtClaim) (x : Stmt) (t : Act) (c : Core) → StmtIn tests base subs loose j x t c → Held tests right ds base subs loose funcs w j c
  held_in j x t c p = record { at = p.at; subs_formed = s; formed = p.formed; result_is = p.result_is; handles = p.handles; scope_good = p.scope_good; body_is = p.body_is }

  -- each pair of forms does the same, where these do
  each_form : Others tests right ds base subs loose funcs w s → OtherStmts tests right ds base subs loose funcs w → Singles (our_each tests base subs loose) (nodes (env tests right ds base subs loose funcs w)) (tree_nodes (program tests right ds base subs loose funcs w))
  each_form o q = record {
    expr = λ i e f c p.
        let r = asked_formed tests right ds base subs loose funcs w s o i.0 i.1 e c p.answers p.at in
        subst (λ t. Same tests right base subs loose i.0 (λ x y c1. (x ≡ y) × (GivesAsked (types_in base) i.0.present i.1 x × At tests base subs loose i.0 c1)) ((nodes (env tests right ds base subs loose funcs w)).expr e c) (tree_node (program tests right ds base subs loose funcs w) t (erased c))) p.is_tree r.does;
    stmt = λ j x t c p.
        let r = stmt_acted tests right ds base subs loose funcs w q j.0 x c p.0.is_found (held_in j.0 x t c p.0) in
        subst (λ b. Twins (our tests base subs loose) (λ y z c1. (y ≡ z) × Ends tests base subs loose j.0 b y c1) (λ y c1. Over tests base subs loose j.0.body.scope.class j.0.body.scope.names j.0.present j.0.around y c1) ((nodes (env tests right ds base subs loose funcs w)).stmt x c) (act_node (program tests right ds base subs loose funcs w) t (erased c))) (sym p.1)
        (subst (λ u. ActSame tests right ds base subs loose funcs w j.0 (falls x) ((nodes (env tests right ds base subs loose funcs w)).stmt x c) (act_node (program tests right ds base subs loose funcs w) u (erased c))) p.0.is_tree r.does);
    expr_at = λ i e f c p. let r = asked_formed tests right ds base subs loose funcs w s o i.0 i.1 e c p.answers p.at in r.at ∙ ap tree_at p.is_tree;
    stmt_at = λ j x t c p. let r = stmt_acted tests right ds base subs loose funcs w q j.0 x c p.0.is_found (held_in j.0 x t c p.0) in r.at ∙ ap act_at p.0.is_tree;
    expr_halts = λ i e f c p. p.at.agrees.globals;
    stmt_halts = λ j x t c p. p.0.at.agrees.globals;
  }

  -- and what is claimed of it
  pub all_forms : Others tests right ds base subs loose funcs w s → OtherStmts tests right ds base subs loose funcs w → Forms (nodes (env tests right ds base subs loose funcs w)) (tree_nodes (program tests right ds base subs loose funcs w)) (our tests base subs loose)
  all_forms o q = several_forms (our_each tests base subs loose) (nodes (env tests right ds base subs loose funcs w)) (tree_nodes (program tests right ds base subs loose funcs w)) (each_form o q)

  -- so each node and its typed tree give the same, and what is claimed of it
  pub all_meet : Others tests right ds base subs loose funcs w s → OtherStmts tests right ds base subs loose funcs w → (d : ℕ) → Meets (our tests base subs loose) (meaning (env tests right ds base subs loose funcs w) d) (tree_meaning (program tests right ds base subs loose funcs w) d)
  all_meet o q d = twins (nodes (env tests right ds base subs loose funcs w)) (tree_nodes (program tests right ds base subs loose funcs w)) (our tests base subs loose) (all_forms o q) d
