-- One induction over the five sorts of trees of statements as they are read: what holds of a node where it holds of its parts holds of
-- all.
use Rattle.std.proofs.Common.{◌≡◌, subst}
use Rattle.asl_syn.specs.declared.read.ReadAlternative.{ReadAlternative, roll-ReadAlternative}
use Rattle.asl_syn.specs.declared.read.ReadCatcher.{ReadCatcher, roll-ReadCatcher}
use Rattle.asl_syn.specs.declared.read.ReadElseIf.{ReadElseIf, roll-ReadElseIf}
use Rattle.asl_syn.specs.declared.read.ReadOtherwise.{ReadOtherwise, roll-ReadOtherwise}
use Rattle.asl_syn.specs.declared.read.ReadStmt.{ReadStmt, roll-ReadStmt}
use Rattle.asl_syn.specs.declared.read.ReadAlternative.TheOpen as rs
use Rattle.asl_syn.specs.declared.read.ReadAlternative.TheFolds.{map-ReadAlternative, map-ReadCatcher, map-ReadElseIf, map-ReadOtherwise, map-ReadStmt, ind-ReadStmt}

module _ (PA : ReadAlternative → Type 0) (PC : ReadCatcher → Type 0) (PB : ReadElseIf → Type 0) (PO : ReadOtherwise → Type 0)
    (PS : ReadStmt → Type 0) where
  abbrev pub WithAlternative : Type 0
  WithAlternative = (x : ReadAlternative) × PA x

  abbrev pub WithCatcher : Type 0
  WithCatcher = (x : ReadCatcher) × PC x

  abbrev pub WithElseIf : Type 0
  WithElseIf = (x : ReadElseIf) × PB x

  abbrev pub WithOtherwise : Type 0
  WithOtherwise = (x : ReadOtherwise) × PO x

  abbrev pub WithStmt : Type 0
  WithStmt = (x : ReadStmt) × PS x

  abbrev pub alternative_trees : rs.ReadAlternative-F WithAlternative WithCatcher WithElseIf WithOtherwise WithStmt →
      rs.ReadAlternative-F ReadAlternative ReadCatcher ReadElseIf ReadOtherwise ReadStmt
  alternative_trees = map-ReadAlternative WithAlternative WithCatcher WithElseIf WithOtherwise WithStmt ReadAlternative ReadCatcher
      ReadElseIf ReadOtherwise ReadStmt (λ x. x.0) (λ x. x.0) (λ x. x.0) (λ x. x.0) (λ x. x.0)

  abbrev pub catcher_trees : rs.ReadCatcher-F WithAlternative WithCatcher WithElseIf WithOtherwise WithStmt →
      rs.ReadCatcher-F ReadAlternative ReadCatcher ReadElseIf ReadOtherwise ReadStmt
  catcher_trees = map-ReadCatcher WithAlternative WithCatcher WithElseIf WithOtherwise WithStmt ReadAlternative ReadCatcher ReadElseIf
      ReadOtherwise ReadStmt (λ x. x.0) (λ x. x.0) (λ x. x.0) (λ x. x.0) (λ x. x.0)

  abbrev pub branch_trees : rs.ReadElseIf-F WithAlternative WithCatcher WithElseIf WithOtherwise WithStmt →
      rs.ReadElseIf-F ReadAlternative ReadCatcher ReadElseIf ReadOtherwise ReadStmt
  branch_trees = map-ReadElseIf WithAlternative WithCatcher WithElseIf WithOtherwise WithStmt ReadAlternative ReadCatcher ReadElseIf
      ReadOtherwise ReadStmt (λ x. x.0) (λ x. x.0) (λ x. x.0) (λ x. x.0) (λ x. x.0)

  abbrev pub otherwise_trees : rs.ReadOtherwise-F WithAlternative WithCatcher WithElseIf WithOtherwise WithStmt →
      rs.ReadOtherwise-F ReadAlternative ReadCatcher ReadElseIf ReadOtherwise ReadStmt
  otherwise_trees = map-ReadOtherwise WithAlternative WithCatcher WithElseIf WithOtherwise WithStmt ReadAlternative ReadCatcher ReadElseIf
      ReadOtherwise ReadStmt (λ x. x.0) (λ x. x.0) (λ x. x.0) (λ x. x.0) (λ x. x.0)

  abbrev pub stmt_trees : rs.ReadStmt-F WithAlternative WithCatcher WithElseIf WithOtherwise WithStmt →
      rs.ReadStmt-F ReadAlternative ReadCatcher ReadElseIf ReadOtherwise ReadStmt
  stmt_trees = map-ReadStmt WithAlternative WithCatcher WithElseIf WithOtherwise WithStmt ReadAlternative ReadCatcher ReadElseIf
      ReadOtherwise ReadStmt (λ x. x.0) (λ x. x.0) (λ x. x.0) (λ x. x.0) (λ x. x.0)

  -- of a node, where it holds of its parts
  pub record Steps : Type 0 where
    pub alternative : (y : rs.ReadAlternative-F WithAlternative WithCatcher WithElseIf WithOtherwise WithStmt) →
        PA (roll-ReadAlternative (alternative_trees y))
    pub catcher : (y : rs.ReadCatcher-F WithAlternative WithCatcher WithElseIf WithOtherwise WithStmt) →
        PC (roll-ReadCatcher (catcher_trees y))
    pub branch : (y : rs.ReadElseIf-F WithAlternative WithCatcher WithElseIf WithOtherwise WithStmt) →
        PB (roll-ReadElseIf (branch_trees y))
    pub otherwise : (y : rs.ReadOtherwise-F WithAlternative WithCatcher WithElseIf WithOtherwise WithStmt) →
        PO (roll-ReadOtherwise (otherwise_trees y))
    pub stmt : (y : rs.ReadStmt-F WithAlternative WithCatcher WithElseIf WithOtherwise WithStmt) → PS (roll-ReadStmt (stmt_trees y))

  module _ (s : Steps) where
    alternative_step : (x : rs.ReadAlternative-F ReadAlternative ReadCatcher ReadElseIf ReadOtherwise ReadStmt)
        (y : rs.ReadAlternative-F WithAlternative WithCatcher WithElseIf WithOtherwise WithStmt) → alternative_trees y ≡ x →
        PA (roll-ReadAlternative x)
    alternative_step x y is = subst (λ z. PA (roll-ReadAlternative z)) is (s.alternative y)

    catcher_step : (x : rs.ReadCatcher-F ReadAlternative ReadCatcher ReadElseIf ReadOtherwise ReadStmt)
        (y : rs.ReadCatcher-F WithAlternative WithCatcher WithElseIf WithOtherwise WithStmt) → catcher_trees y ≡ x →
        PC (roll-ReadCatcher x)
    catcher_step x y is = subst (λ z. PC (roll-ReadCatcher z)) is (s.catcher y)

    branch_step : (x : rs.ReadElseIf-F ReadAlternative ReadCatcher ReadElseIf ReadOtherwise ReadStmt)
        (y : rs.ReadElseIf-F WithAlternative WithCatcher WithElseIf WithOtherwise WithStmt) → branch_trees y ≡ x →
        PB (roll-ReadElseIf x)
    branch_step x y is = subst (λ z. PB (roll-ReadElseIf z)) is (s.branch y)

    otherwise_step : (x : rs.ReadOtherwise-F ReadAlternative ReadCatcher ReadElseIf ReadOtherwise ReadStmt)
        (y : rs.ReadOtherwise-F WithAlternative WithCatcher WithElseIf WithOtherwise WithStmt) → otherwise_trees y ≡ x →
        PO (roll-ReadOtherwise x)
    otherwise_step x y is = subst (λ z. PO (roll-ReadOtherwise z)) is (s.otherwise y)

    stmt_step : (x : rs.ReadStmt-F ReadAlternative ReadCatcher ReadElseIf ReadOtherwise ReadStmt)
        (y : rs.ReadStmt-F WithAlternative WithCatcher WithElseIf WithOtherwise WithStmt) → stmt_trees y ≡ x → PS (roll-ReadStmt x)
    stmt_step x y is = subst (λ z. PS (roll-ReadStmt z)) is (s.stmt y)

    pub all_stmts : (x : ReadStmt) → PS x
    all_stmts = ind-ReadStmt PA PC PB PO PS alternative_step catcher_step branch_step otherwise_step stmt_step
