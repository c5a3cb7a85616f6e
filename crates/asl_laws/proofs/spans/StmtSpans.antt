-- The faults of what is found at a statement stand at spans of its tree, in every scope, and have other codes than T04.
use Rattle.std.proofs.Common.{◌≡◌, List, [], ◌∷◌, map, Option, Some, None, sym, subst}
use Rattle.asl_syn.specs.declared.code.Fault.{Fault}
use Rattle.asl_syn.specs.declared.tree.Expr.{Expr}
use Rattle.asl_syn.specs.declared.tree.Ident.{Ident}
use Rattle.asl_syn.specs.declared.tree.Pattern.{Pattern}
use Rattle.asl_syn.specs.declared.tree.TypeExpr.{TypeExpr}
use Rattle.asl_syn.specs.declared.tree.Alternative.{Alternative, roll-Alternative}
use Rattle.asl_syn.specs.declared.tree.Catcher.{Catcher, roll-Catcher}
use Rattle.asl_syn.specs.declared.tree.ElseIf.{ElseIf, roll-ElseIf}
use Rattle.asl_syn.specs.declared.tree.Otherwise.{Otherwise, roll-Otherwise}
use Rattle.asl_syn.specs.declared.tree.Stmt.{Stmt, roll-Stmt}
use Rattle.asl_syn.specs.declared.tree.Alternative.TheOpen as st
use Rattle.asl_syn.specs.declared.tree.Alternative.TheFolds.{fold-Alternative, fold-Catcher, fold-ElseIf, fold-Otherwise, fold-roll-Alternative, fold-roll-Catcher, fold-roll-ElseIf, fold-roll-Otherwise, fold-roll-Stmt, map-Alternative, map-Catcher, map-ElseIf, map-Otherwise, map-Stmt, ind-Stmt}
use Rattle.asl_rules.specs.Tests.{Tests}
use Rattle.asl_rules.specs.declarations.Scopes.{Body}
use Rattle.asl_rules.specs.expressions.Exprs.{found}
use Rattle.asl_rules.specs.statements.Acting.{FoundStmt, FoundOtherwise}
use Rattle.asl_rules.specs.statements.Branches.{FoundBranch, FoundAlternative, FoundCatcher}
use Rattle.asl_rules.specs.statements.Stmts.{stmt_layer_rule, branch_found, alternative_found, catcher_found, otherwise_found, found_stmt}
use Rattle.asl_laws.proofs.basics.Lists.{AllOf}
use Rattle.asl_laws.specs.Spans.{Each, joined, all_of, maybe, of_name, expr_spans, type_spans, pattern_spans, in_alternative, in_catcher, in_branch, in_otherwise, in_stmt, alternative_spans, catcher_spans, branch_spans, otherwise_spans, stmt_spans}
use Rattle.asl_laws.proofs.spans.SpanLayers.{spans_of_alternative, spans_of_catcher, spans_of_branch, spans_of_otherwise, spans_of_stmt, inside_alternative, inside_catcher, inside_branch, inside_otherwise, inside_stmt, all_parts, all_there}
use Rattle.asl_laws.proofs.spans.Standing.{names_there, Stands, ExprStands, Marked}
use Rattle.asl_laws.proofs.spans.ExprSpans.{expr_there, type_there, pattern_there}
use Rattle.asl_laws.proofs.spans.StmtRows.{MaybeThere, MaybeTypeThere, PatternThere, MaybeNamed, StmtStands, BranchStands, AlternativeStands, CatcherStands, LastStands, stmt_rows}
use Rattle.asl_laws.proofs.spans.TargetSpans.{assign_stands}

module _ (t : Tests) (P : Fault → Type 0) where
  -- ---- the expressions in a statement

  maybe_there : (e : Option Expr) → Each (Marked P t) (maybe expr_spans e) → MaybeThere t P e
  maybe_there None h = tt
  maybe_there (Some e) h = expr_there t P e h

  maybe_type_there : (ty : Option TypeExpr) → Each (Marked P t) (maybe type_spans ty) → MaybeTypeThere t P ty
  maybe_type_there None h = tt
  maybe_type_there (Some ty) h = type_there t P ty h

  maybe_named : (i : Option Ident) → Each (Marked P t) (maybe of_name i) → MaybeNamed t P i
  maybe_named None h = tt
  maybe_named (Some i) h = h

  patterns_there : (ps : List Pattern) → Each (Marked P t) (all_of pattern_spans ps) → AllOf (PatternThere t P) ps
  patterns_there [] h = tt
  patterns_there (p ∷ ps) h = (pattern_there t P p h.0, patterns_there ps h.1)

  exprs_there : (es : List Expr) → Each (Marked P t) (all_of expr_spans es) → AllOf (ExprStands P) (map (found t) es)
  exprs_there = all_there (Marked P t) expr_spans (found t) (ExprStands P) (expr_there t P)

  -- ---- what is found at each tree

  abbrev pub found_alternative : Alternative → FoundAlternative
  found_alternative = fold-Alternative FoundAlternative FoundCatcher FoundBranch FoundOtherwise FoundStmt alternative_found catcher_found branch_found otherwise_found (stmt_layer_rule t)

  abbrev pub found_catcher : Catcher → FoundCatcher
  found_catcher = fold-Catcher FoundAlternative FoundCatcher FoundBranch FoundOtherwise FoundStmt alternative_found catcher_found branch_found otherwise_found (stmt_layer_rule t)

  abbrev pub found_branch : ElseIf → FoundBranch
  found_branch = fold-ElseIf FoundAlternative FoundCatcher FoundBranch FoundOtherwise FoundStmt alternative_found catcher_found branch_found otherwise_found (stmt_layer_rule t)

  abbrev pub found_otherwise : Otherwise → FoundOtherwise
  found_otherwise = fold-Otherwise FoundAlternative FoundCatcher FoundBranch FoundOtherwise FoundStmt alternative_found catcher_found branch_found otherwise_found (stmt_layer_rule t)

  abbrev pub AlternativeGood : Alternative → Type 0
  AlternativeGood x = Each (Marked P t) (alternative_spans x) → AlternativeStands t P (found_alternative x)

  abbrev pub CatcherGood : Catcher → Type 0
  CatcherGood x = Each (Marked P t) (catcher_spans x) → CatcherStands t P (found_catcher x)

  abbrev pub ElseIfGood : ElseIf → Type 0
  ElseIfGood x = Each (Marked P t) (branch_spans x) → BranchStands t P (found_branch x)

  abbrev pub OtherwiseGood : Otherwise → Type 0
  OtherwiseGood x = Each (Marked P t) (otherwise_spans x) → LastStands t P (found_otherwise x)

  abbrev pub StmtGood : Stmt → Type 0
  StmtGood x = Each (Marked P t) (stmt_spans x) → StmtStands t P ((found_stmt t) x)

  abbrev AA : Type 0
  AA = (x : Alternative) × AlternativeGood x

  abbrev CC : Type 0
  CC = (x : Catcher) × CatcherGood x

  abbrev BB : Type 0
  BB = (x : ElseIf) × ElseIfGood x

  abbrev OO : Type 0
  OO = (x : Otherwise) × OtherwiseGood x

  abbrev SS : Type 0
  SS = (x : Stmt) × StmtGood x

  abbrev alternative_trees : st.Alternative-F AA CC BB OO SS → st.Alternative-F Alternative Catcher ElseIf Otherwise Stmt
  alternative_trees = map-Alternative AA CC BB OO SS Alternative Catcher ElseIf Otherwise Stmt (λ x. x.0) (λ x. x.0) (λ x. x.0) (λ x. x.0) (λ x. x.0)

  abbrev alternative_opened : st.Alternative-F Alternative Catcher ElseIf Otherwise Stmt → st.Alternative-F FoundAlternative FoundCatcher FoundBranch FoundOtherwise FoundStmt
  alternative_opened = map-Alternative Alternative Catcher ElseIf Otherwise Stmt FoundAlternative FoundCatcher FoundBranch FoundOtherwise FoundStmt found_alternative found_catcher found_branch found_otherwise (found_stmt t)

  abbrev catcher_trees : st.Catcher-F AA CC BB OO SS → st.Catcher-F Alternative Catcher ElseIf Otherwise Stmt
  catcher_trees = map-Catcher AA CC BB OO SS Alternative Catcher ElseIf Otherwise Stmt (λ x. x.0) (λ x. x.0) (λ x. x.0) (λ x. x.0) (λ x. x.0)

  abbrev catcher_opened : st.Catcher-F Alternative Catcher ElseIf Otherwise Stmt → st.Catcher-F FoundAlternative FoundCatcher FoundBranch FoundOtherwise FoundStmt
  catcher_opened = map-Catcher Alternative Catcher ElseIf Otherwise Stmt FoundAlternative FoundCatcher FoundBranch FoundOtherwise FoundStmt found_alternative found_catcher found_branch found_otherwise (found_stmt t)

  abbrev branch_trees : st.ElseIf-F AA CC BB OO SS → st.ElseIf-F Alternative Catcher ElseIf Otherwise Stmt
  branch_trees = map-ElseIf AA CC BB OO SS Alternative Catcher ElseIf Otherwise Stmt (λ x. x.0) (λ x. x.0) (λ x. x.0) (λ x. x.0) (λ x. x.0)

  abbrev branch_opened : st.ElseIf-F Alternative Catcher ElseIf Otherwise Stmt → st.ElseIf-F FoundAlternative FoundCatcher FoundBranch FoundOtherwise FoundStmt
  branch_opened = map-ElseIf Alternative Catcher ElseIf Otherwise Stmt FoundAlternative FoundCatcher FoundBranch FoundOtherwise FoundStmt found_alternative found_catcher found_branch found_otherwise (found_stmt t)

  abbrev otherwise_trees : st.Otherwise-F AA CC BB OO SS → st.Otherwise-F Alternative Catcher ElseIf Otherwise Stmt
  otherwise_trees = map-Otherwise AA CC BB OO SS Alternative Catcher ElseIf Otherwise Stmt (λ x. x.0) (λ x. x.0) (λ x. x.0) (λ x. x.0) (λ x. x.0)

  abbrev otherwise_opened : st.Otherwise-F Alternative Catcher ElseIf Otherwise Stmt → st.Otherwise-F FoundAlternative FoundCatcher FoundBranch FoundOtherwise FoundStmt
  otherwise_opened = map-Otherwise Alternative Catcher ElseIf Otherwise Stmt FoundAlternative FoundCatcher FoundBranch FoundOtherwise FoundStmt found_alternative found_catcher found_branch found_otherwise (found_stmt t)

  abbrev stmt_trees : st.Stmt-F AA CC BB OO SS → st.Stmt-F Alternative Catcher ElseIf Otherwise Stmt
  stmt_trees = map-Stmt AA CC BB OO SS Alternative Catcher ElseIf Otherwise Stmt (λ x. x.0) (λ x. x.0) (λ x. x.0) (λ x. x.0) (λ x. x.0)

  abbrev stmt_opened : st.Stmt-F Alternative Catcher ElseIf Otherwise Stmt → st.Stmt-F FoundAlternative FoundCatcher FoundBranch FoundOtherwise FoundStmt
  stmt_opened = map-Stmt Alternative Catcher ElseIf Otherwise Stmt FoundAlternative FoundCatcher FoundBranch FoundOtherwise FoundStmt found_alternative found_catcher found_branch found_otherwise (found_stmt t)

  -- ---- what is found at the parts of a node

  statements : (ss : List SS) → Each (Marked P t) (joined (map stmt_spans (map (λ x. x.0) ss))) → AllOf (StmtStands t P) (map (found_stmt t) (map (λ x. x.0) ss))
  statements = all_parts (Marked P t) stmt_spans (found_stmt t) (StmtStands t P)

  alternatives : (xs : List AA) → Each (Marked P t) (joined (map alternative_spans (map (λ x. x.0) xs))) → AllOf (AlternativeStands t P) (map found_alternative (map (λ x. x.0) xs))
  alternatives = all_parts (Marked P t) alternative_spans found_alternative (AlternativeStands t P)

  catchers : (xs : List CC) → Each (Marked P t) (joined (map catcher_spans (map (λ x. x.0) xs))) → AllOf (CatcherStands t P) (map found_catcher (map (λ x. x.0) xs))
  catchers = all_parts (Marked P t) catcher_spans found_catcher (CatcherStands t P)

  branches : (xs : List BB) → Each (Marked P t) (joined (map branch_spans (map (λ x. x.0) xs))) → AllOf (BranchStands t P) (map found_branch (map (λ x. x.0) xs))
  branches = all_parts (Marked P t) branch_spans found_branch (BranchStands t P)

  otherwise : (x : OO) → Each (Marked P t) (otherwise_spans x.0) → LastStands t P (found_otherwise x.0)
  otherwise x h = x.1 h

  ruleset layers = (stmt_rows, expr_there, maybe_there, maybe_type_there, maybe_named, patterns_there, exprs_there, type_there, assign_stands, statements, alternatives, catchers, branches, otherwise)

  -- ---- each layer: of statements the first clause names a form, so that the next is tried for each other one

  alternative_layer : (y : st.Alternative-F AA CC BB OO SS) → Each (Marked P t) (in_alternative (spans_of_alternative (alternative_trees y))) → AlternativeStands t P (alternative_found (alternative_opened (alternative_trees y)))
  alternative_layer (st.When ps e ss) h = record { patterns_at = patterns_there ps h.0; condition_at = maybe_there e h.1.0; body_at = all_parts (Marked P t) stmt_spans (found_stmt t) (StmtStands t P) ss h.1.1 }

  catcher_layer : (y : st.Catcher-F AA CC BB OO SS) → Each (Marked P t) (in_catcher (spans_of_catcher (catcher_trees y))) → CatcherStands t P (catcher_found (catcher_opened (catcher_trees y)))
  catcher_layer (st.Catch i ty ss) h = record { name_at = maybe_named i h.0; ty_at = h.1.0; body_at = all_parts (Marked P t) stmt_spans (found_stmt t) (StmtStands t P) ss h.1.1 }

  branch_layer : (y : st.ElseIf-F AA CC BB OO SS) → Each (Marked P t) (in_branch (spans_of_branch (branch_trees y))) → BranchStands t P (branch_found (branch_opened (branch_trees y)))
  branch_layer (st.ElseIf c ss) h = record { condition_at = expr_there t P c h.0; body_at = all_parts (Marked P t) stmt_spans (found_stmt t) (StmtStands t P) ss h.1 }

  otherwise_layer : (y : st.Otherwise-F AA CC BB OO SS) → Each (Marked P t) (in_otherwise (spans_of_otherwise (otherwise_trees y))) → LastStands t P (otherwise_found (otherwise_opened (otherwise_trees y)))
  otherwise_layer st.NoOtherwise h = tt
  otherwise_layer (st.Otherwise ss) h = all_parts (Marked P t) stmt_spans (found_stmt t) (StmtStands t P) ss h

  done_layer : (y : st.Stmt-F AA CC BB OO SS) → Each (Marked P t) (in_stmt (spans_of_stmt (stmt_trees y))) → (B : Body) → Stands P (stmt_layer_rule t (stmt_opened (stmt_trees y)) B)
  done_layer (st.LocalVars span is ty) h B = let named = names_there P t is h.1.0 in search (layers, named) depth 20
  done_layer y h B = search layers depth 20

  stmt_layer : (y : st.Stmt-F AA CC BB OO SS) → Each (Marked P t) (in_stmt (spans_of_stmt (stmt_trees y))) → StmtStands t P (stmt_layer_rule t (stmt_opened (stmt_trees y)))
  stmt_layer y h = record { stmt_at = done_layer y h }

  -- ---- by induction over trees

  alternative_step : (x : st.Alternative-F Alternative Catcher ElseIf Otherwise Stmt) (y : st.Alternative-F AA CC BB OO SS) → alternative_trees y ≡ x → AlternativeGood (roll-Alternative x)
  alternative_step x y is h =
      subst (AlternativeStands t P) (sym (fold-roll-Alternative FoundAlternative FoundCatcher FoundBranch FoundOtherwise FoundStmt alternative_found catcher_found branch_found otherwise_found (stmt_layer_rule t) x)) (subst (λ z. AlternativeStands t P (alternative_found (alternative_opened z))) is (alternative_layer y
      (subst (λ z. Each (Marked P t) (in_alternative (spans_of_alternative z))) (sym is) (inside_alternative (Marked P t) x h))))

  catcher_step : (x : st.Catcher-F Alternative Catcher ElseIf Otherwise Stmt) (y : st.Catcher-F AA CC BB OO SS) → catcher_trees y ≡ x → CatcherGood (roll-Catcher x)
  catcher_step x y is h =
      subst (CatcherStands t P) (sym (fold-roll-Catcher FoundAlternative FoundCatcher FoundBranch FoundOtherwise FoundStmt alternative_found catcher_found branch_found otherwise_found (stmt_layer_rule t) x)) (subst (λ z. CatcherStands t P (catcher_found (catcher_opened z))) is (catcher_layer y
      (subst (λ z. Each (Marked P t) (in_catcher (spans_of_catcher z))) (sym is) (inside_catcher (Marked P t) x h))))

  branch_step : (x : st.ElseIf-F Alternative Catcher ElseIf Otherwise Stmt) (y : st.ElseIf-F AA CC BB OO SS) → branch_trees y ≡ x → ElseIfGood (roll-ElseIf x)
  branch_step x y is h =
      subst (BranchStands t P) (sym (fold-roll-ElseIf FoundAlternative FoundCatcher FoundBranch FoundOtherwise FoundStmt alternative_found catcher_found branch_found otherwise_found (stmt_layer_rule t) x)) (subst (λ z. BranchStands t P (branch_found (branch_opened z))) is (branch_layer y
      (subst (λ z. Each (Marked P t) (in_branch (spans_of_branch z))) (sym is) (inside_branch (Marked P t) x h))))

  otherwise_step : (x : st.Otherwise-F Alternative Catcher ElseIf Otherwise Stmt) (y : st.Otherwise-F AA CC BB OO SS) → otherwise_trees y ≡ x → OtherwiseGood (roll-Otherwise x)
  otherwise_step x y is h =
      subst (LastStands t P) (sym (fold-roll-Otherwise FoundAlternative FoundCatcher FoundBranch FoundOtherwise FoundStmt alternative_found catcher_found branch_found otherwise_found (stmt_layer_rule t) x)) (subst (λ z. LastStands t P (otherwise_found (otherwise_opened z))) is (otherwise_layer y
      (subst (λ z. Each (Marked P t) (in_otherwise (spans_of_otherwise z))) (sym is) (inside_otherwise (Marked P t) x h))))

  stmt_step : (x : st.Stmt-F Alternative Catcher ElseIf Otherwise Stmt) (y : st.Stmt-F AA CC BB OO SS) → stmt_trees y ≡ x → StmtGood (roll-Stmt x)
  stmt_step x y is h =
      subst (StmtStands t P) (sym (fold-roll-Stmt FoundAlternative FoundCatcher FoundBranch FoundOtherwise FoundStmt alternative_found catcher_found branch_found otherwise_found (stmt_layer_rule t) x)) (subst (λ z. StmtStands t P (stmt_layer_rule t (stmt_opened z))) is (stmt_layer y
      (subst (λ z. Each (Marked P t) (in_stmt (spans_of_stmt z))) (sym is) (inside_stmt (Marked P t) x h))))

  -- what is found at a statement stands at its spans
  pub stmt_there : (x : Stmt) → StmtGood x
  stmt_there = ind-Stmt AlternativeGood CatcherGood ElseIfGood OtherwiseGood StmtGood alternative_step catcher_step branch_step otherwise_step stmt_step
