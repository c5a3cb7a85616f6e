-- One induction over the five sorts of trees of statements: what holds of a node where it holds of its parts holds of all.
use Rattle.std.proofs.Common.{◌≡◌, subst}
use Rattle.asl_syn.specs.declared.tree.Alternative.{Alternative, roll-Alternative}
use Rattle.asl_syn.specs.declared.tree.Catcher.{Catcher, roll-Catcher}
use Rattle.asl_syn.specs.declared.tree.ElseIf.{ElseIf, roll-ElseIf}
use Rattle.asl_syn.specs.declared.tree.Otherwise.{Otherwise, roll-Otherwise}
use Rattle.asl_syn.specs.declared.tree.Stmt.{Stmt, roll-Stmt}
use Rattle.asl_syn.specs.declared.tree.Alternative.TheOpen as st
use Rattle.asl_syn.specs.declared.tree.Alternative.TheFolds.{map-Alternative, map-Catcher, map-ElseIf, map-Otherwise, map-Stmt, ind-Stmt}

module _ (PA : Alternative → Type 0) (PC : Catcher → Type 0) (PB : ElseIf → Type 0) (PO : Otherwise → Type 0) (PS : Stmt → Type 0) where
  abbrev pub WithAlternative : Type 0
  WithAlternative = (x : Alternative) × PA x

  abbrev pub WithCatcher : Type 0
  WithCatcher = (x : Catcher) × PC x

  abbrev pub WithElseIf : Type 0
  WithElseIf = (x : ElseIf) × PB x

  abbrev pub WithOtherwise : Type 0
  WithOtherwise = (x : Otherwise) × PO x

  abbrev pub WithStmt : Type 0
  WithStmt = (x : Stmt) × PS x

  abbrev pub alternative_trees : st.Alternative-F WithAlternative WithCatcher WithElseIf WithOtherwise WithStmt →
      st.Alternative-F Alternative Catcher ElseIf Otherwise Stmt
  alternative_trees = map-Alternative WithAlternative WithCatcher WithElseIf WithOtherwise WithStmt Alternative Catcher ElseIf Otherwise
      Stmt (λ x. x.0) (λ x. x.0) (λ x. x.0) (λ x. x.0) (λ x. x.0)

  abbrev pub catcher_trees : st.Catcher-F WithAlternative WithCatcher WithElseIf WithOtherwise WithStmt →
      st.Catcher-F Alternative Catcher ElseIf Otherwise Stmt
  catcher_trees = map-Catcher WithAlternative WithCatcher WithElseIf WithOtherwise WithStmt Alternative Catcher ElseIf Otherwise Stmt
      (λ x. x.0) (λ x. x.0) (λ x. x.0) (λ x. x.0) (λ x. x.0)

  abbrev pub branch_trees : st.ElseIf-F WithAlternative WithCatcher WithElseIf WithOtherwise WithStmt →
      st.ElseIf-F Alternative Catcher ElseIf Otherwise Stmt
  branch_trees = map-ElseIf WithAlternative WithCatcher WithElseIf WithOtherwise WithStmt Alternative Catcher ElseIf Otherwise Stmt
      (λ x. x.0) (λ x. x.0) (λ x. x.0) (λ x. x.0) (λ x. x.0)

  abbrev pub otherwise_trees : st.Otherwise-F WithAlternative WithCatcher WithElseIf WithOtherwise WithStmt →
      st.Otherwise-F Alternative Catcher ElseIf Otherwise Stmt
  otherwise_trees = map-Otherwise WithAlternative WithCatcher WithElseIf WithOtherwise WithStmt Alternative Catcher ElseIf Otherwise Stmt
      (λ x. x.0) (λ x. x.0) (λ x. x.0) (λ x. x.0) (λ x. x.0)

  abbrev pub stmt_trees : st.Stmt-F WithAlternative WithCatcher WithElseIf WithOtherwise WithStmt →
      st.Stmt-F Alternative Catcher ElseIf Otherwise Stmt
  stmt_trees = map-Stmt WithAlternative WithCatcher WithElseIf WithOtherwise WithStmt Alternative Catcher ElseIf Otherwise Stmt (λ x. x.0)
      (λ x. x.0) (λ x. x.0) (λ x. x.0) (λ x. x.0)

  -- of a node, where it holds of its parts
  pub record Steps : Type 0 where
    pub alternative : (y : st.Alternative-F WithAlternative WithCatcher WithElseIf WithOtherwise WithStmt) →
        PA (roll-Alternative (alternative_trees y))
    pub catcher : (y : st.Catcher-F WithAlternative WithCatcher WithElseIf WithOtherwise WithStmt) → PC (roll-Catcher (catcher_trees y))
    pub branch : (y : st.ElseIf-F WithAlternative WithCatcher WithElseIf WithOtherwise WithStmt) → PB (roll-ElseIf (branch_trees y))
    pub otherwise : (y : st.Otherwise-F WithAlternative WithCatcher WithElseIf WithOtherwise WithStmt) →
        PO (roll-Otherwise (otherwise_trees y))
    pub stmt : (y : st.Stmt-F WithAlternative WithCatcher WithElseIf WithOtherwise WithStmt) → PS (roll-Stmt (stmt_trees y))

  module _ (s : Steps) where
    alternative_step : (x : st.Alternative-F Alternative Catcher ElseIf Otherwise Stmt)
        (y : st.Alternative-F WithAlternative WithCatcher WithElseIf WithOtherwise WithStmt) → alternative_trees y ≡ x →
        PA (roll-Alternative x)
    alternative_step x y is = subst (λ z. PA (roll-Alternative z)) is (s.alternative y)

    catcher_step : (x : st.Catcher-F Alternative Catcher ElseIf Otherwise Stmt)
        (y : st.Catcher-F WithAlternative WithCatcher WithElseIf WithOtherwise WithStmt) → catcher_trees y ≡ x → PC (roll-Catcher x)
    catcher_step x y is = subst (λ z. PC (roll-Catcher z)) is (s.catcher y)

    branch_step : (x : st.ElseIf-F Alternative Catcher ElseIf Otherwise Stmt)
        (y : st.ElseIf-F WithAlternative WithCatcher WithElseIf WithOtherwise WithStmt) → branch_trees y ≡ x → PB (roll-ElseIf x)
    branch_step x y is = subst (λ z. PB (roll-ElseIf z)) is (s.branch y)

    otherwise_step : (x : st.Otherwise-F Alternative Catcher ElseIf Otherwise Stmt)
        (y : st.Otherwise-F WithAlternative WithCatcher WithElseIf WithOtherwise WithStmt) → otherwise_trees y ≡ x → PO (roll-Otherwise x)
    otherwise_step x y is = subst (λ z. PO (roll-Otherwise z)) is (s.otherwise y)

    stmt_step : (x : st.Stmt-F Alternative Catcher ElseIf Otherwise Stmt)
        (y : st.Stmt-F WithAlternative WithCatcher WithElseIf WithOtherwise WithStmt) → stmt_trees y ≡ x → PS (roll-Stmt x)
    stmt_step x y is = subst (λ z. PS (roll-Stmt z)) is (s.stmt y)

    pub all_stmts : (x : Stmt) → PS x
    all_stmts = ind-Stmt PA PC PB PO PS alternative_step catcher_step branch_step otherwise_step stmt_step
