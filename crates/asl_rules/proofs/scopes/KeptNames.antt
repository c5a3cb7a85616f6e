-- Statements but declarations leave the visible names as they are. So what declarations keep of scopes, all statements and lists keep.
use Rattle.std.proofs.Common.{◌≡◌, List, [], ◌∷◌, map, Option, Some, None, Result, Ok, sym, ap, ◌∙◌, subst}
use Rattle.asl_syn.specs.declared.token.Span.{Span}
use Rattle.asl_syn.specs.declared.code.Fault.{Fault}
use Rattle.asl_syn.specs.declared.tree.Expr.{Expr}
use Rattle.asl_syn.specs.declared.tree.Ident.{Ident}
use Rattle.asl_syn.specs.declared.tree.TypeExpr.{TypeExpr}
use Rattle.asl_syn.specs.declared.tree.LocalKind.{LocalKind}
use Rattle.asl_syn.specs.declared.tree.Bind.{Bind}
use Rattle.asl_syn.specs.declared.tree.Alternative.{Alternative}
use Rattle.asl_syn.specs.declared.tree.Catcher.{Catcher}
use Rattle.asl_syn.specs.declared.tree.ElseIf.{ElseIf}
use Rattle.asl_syn.specs.declared.tree.Otherwise.{Otherwise}
use Rattle.asl_syn.specs.declared.tree.Stmt.{Stmt, out-Stmt}
use Rattle.asl_syn.specs.declared.tree.Alternative.TheOpen as st
use Rattle.asl_syn.specs.declared.tree.Alternative.TheFolds.{fold-Alternative, fold-Catcher, fold-ElseIf, fold-Otherwise, fold_out-Stmt, map-Stmt}
use Rattle.asl_rules.specs.declared.effect.Effect.{Effect}
use Rattle.asl_rules.specs.Tests.{Tests}
use Rattle.asl_rules.specs.types.Types.{Ty}
use Rattle.asl_rules.specs.types.Effects.{greater}
use Rattle.asl_rules.specs.declarations.Scopes.{Scope, Body, body_names}
use Rattle.asl_rules.specs.statements.Acting.{Done, FoundStmt, FoundOtherwise, Listed, act_first, in_order}
use Rattle.asl_rules.specs.statements.Locals.{bind_rule, vars_rule}
use Rattle.asl_rules.specs.statements.Branches.{FoundBranch, FoundAlternative, FoundCatcher}
use Rattle.asl_rules.specs.statements.Stmts.{StmtOf, return_rule, throw_rule, stmt_layer_rule, branch_found, alternative_found, catcher_found, otherwise_found, found_stmt}
use Rattle.asl_rules.proofs.basics.Answering.{OfAnswer, steps_before, of_each, of_this}
use Rattle.asl_rules.proofs.basics.Inversions.{ok_ok, bind_ok}

-- what declarations keep of the names of a scope
pub record DeclarationsKeep (t : Tests) (P : Scope → Type 0) : Type 0 where
  pub bind : (span : Span) (kind : LocalKind) (b : Bind) (ty : Option TypeExpr) (e : Expr) (G : Scope) (d : Done) → P G → bind_rule t span kind b ty e G ≡ Ok d → P (record G { names = d.names })
  pub vars : (span : Span) (is : List Ident) (ty : TypeExpr) (G : Scope) (d : Done) → P G → vars_rule t span is ty G ≡ Ok d → P (record G { names = d.names })

module _ (t : Tests) (P : Scope → Type 0) (keep : DeclarationsKeep t P) where
  abbrev Keeps : Body → Result Done Fault → Type 0
  Keeps B r = OfAnswer (λ d. P (record B.scope { names = d.names })) r

  return_keeps : (span : Span) (e : Option Expr) (result : Option Ty) (B : Body) → P B.scope → Keeps B (return_rule t span e B.scope result)
  return_keeps span None None B p = p
  return_keeps span None (Some T) B p = tt
  return_keeps span (Some e) None B p = search steps_before
  return_keeps span (Some e) (Some T) B p = search (steps_before, p)

  throw_keeps : (span : Span) (e : Option Expr) (B : Body) → P B.scope → Keeps B (throw_rule t span e B)
  throw_keeps span None B p = search (steps_before, p)
  throw_keeps span (Some e) B p = search (steps_before, p)

  -- each statement does: one that declares nothing ends with the names that it began with
  layer_keeps : (x : StmtOf) (B : Body) → P B.scope → Keeps B (stmt_layer_rule t x B)
  layer_keeps (st.Local span kind b ty e) B p = of_each _ _ (λ d h. keep.bind span kind b ty e B.scope d p h)
  layer_keeps (st.LocalVars span is ty) B p = of_each _ _ (λ d h. keep.vars span is ty B.scope d p h)
  layer_keeps (st.Return span e) B p = return_keeps span e B.result B p
  layer_keeps (st.Throw span e) B p = throw_keeps span e B p
  layer_keeps x B p = search (steps_before, p) depth 20

  -- one layer of a statement with what is found at its parts
  abbrev pub stmt_opened : st.Stmt-F Alternative Catcher ElseIf Otherwise Stmt → StmtOf
  stmt_opened = map-Stmt Alternative Catcher ElseIf Otherwise Stmt FoundAlternative FoundCatcher FoundBranch FoundOtherwise FoundStmt
      (fold-Alternative FoundAlternative FoundCatcher FoundBranch FoundOtherwise FoundStmt alternative_found catcher_found branch_found otherwise_found (stmt_layer_rule t))
      (fold-Catcher FoundAlternative FoundCatcher FoundBranch FoundOtherwise FoundStmt alternative_found catcher_found branch_found otherwise_found (stmt_layer_rule t))
      (fold-ElseIf FoundAlternative FoundCatcher FoundBranch FoundOtherwise FoundStmt alternative_found catcher_found branch_found otherwise_found (stmt_layer_rule t))
      (fold-Otherwise FoundAlternative FoundCatcher FoundBranch FoundOtherwise FoundStmt alternative_found catcher_found branch_found otherwise_found (stmt_layer_rule t))
      (found_stmt t)

  pub stmt_keeps : (s : Stmt) (B : Body) (d : Done) → P B.scope → found_stmt t s B ≡ Ok d → P (record B.scope { names = d.names })
  stmt_keeps s B d p h =
      of_this (λ (e : Done). P (record B.scope { names = e.names })) (stmt_layer_rule t (stmt_opened (out-Stmt s)) B) d (sym (ap (λ (f : FoundStmt). f B) (fold_out-Stmt FoundAlternative FoundCatcher FoundBranch FoundOtherwise FoundStmt alternative_found catcher_found branch_found otherwise_found (stmt_layer_rule t) s)) ∙ h) (layer_keeps (stmt_opened (out-Stmt s)) B p)

  -- and each list
  pub list_keeps : (ss : List Stmt) (k : Effect) (B : Body) (l : Listed) → P B.scope → in_order (map (found_stmt t) ss) k B ≡ Ok l → P (record B.scope { names = l.names })
  list_keeps [] k B l p h = subst (λ (z : Listed). P (record B.scope { names = z.names })) (ok_ok _ l h) p
  list_keeps (s ∷ ss) k B l p h =
      let d = bind_ok (found_stmt t s B) _ l h in
      let r = bind_ok (in_order (map (found_stmt t) ss) (greater k d.value.effect) (body_names B d.value.names)) _ l d.then in
      subst (λ (z : Listed). P (record B.scope { names = z.names })) (ok_ok (act_first d.value.act r.value) l r.then)
      (list_keeps ss (greater k d.value.effect) (body_names B d.value.names) r.value (stmt_keeps s B d.value p d.first) r.first)
