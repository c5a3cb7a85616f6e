-- What is found at statements by a fold, where something holds of each name that they use: a step for each sort of node, which is given
-- what holds of its parts and of the names that its own expressions, types and targets use, shows it of all statements.
use Rattle.std.proofs.Common.{◌++◌, map, refl, sym, ap, subst}
use Rattle.asl_syn.specs.declared.tree.Alternative.{Alternative, roll-Alternative}
use Rattle.asl_syn.specs.declared.tree.Catcher.{Catcher, roll-Catcher}
use Rattle.asl_syn.specs.declared.tree.ElseIf.{ElseIf, roll-ElseIf}
use Rattle.asl_syn.specs.declared.tree.Otherwise.{Otherwise, roll-Otherwise}
use Rattle.asl_syn.specs.declared.tree.Stmt.{Stmt, roll-Stmt}
use Rattle.asl_syn.specs.declared.tree.Alternative.TheOpen as st
use Rattle.asl_syn.specs.declared.tree.Alternative.TheFolds.{fold-Alternative, fold-Catcher, fold-ElseIf, fold-Otherwise, fold-Stmt}
use Rattle.asl_syn.specs.declared.tree.Alternative.TheFolds.{fold-roll-Alternative, fold-roll-Catcher, fold-roll-ElseIf}
use Rattle.asl_syn.specs.declared.tree.Alternative.TheFolds.{fold-roll-Otherwise, fold-roll-Stmt, map-Alternative, map-Catcher, map-ElseIf}
use Rattle.asl_syn.specs.declared.tree.Alternative.TheFolds.{map-Otherwise, map-Stmt}
use Rattle.asl_rules.specs.declarations.UsedNames.{Use, Uses, of_subprogram, of_type, Each, joined, expr_uses, pattern_uses, type_uses}
use Rattle.asl_rules.specs.declarations.UsedNames.{maybe_expr_uses, maybe_type_uses}
use Rattle.asl_laws.specs.StmtUses.{target_uses, item_uses, in_alternative, in_catcher, in_branch, in_otherwise, in_stmt, alternative_uses}
use Rattle.asl_laws.specs.StmtUses.{catcher_uses, branch_uses, otherwise_uses, stmt_uses}
use Rattle.asl_laws.proofs.names.ByUses.{each_first, each_second, Kept, kept_list}
use Rattle.asl_laws.proofs.names.StmtInduction as induction

module _ (P : Use → Type 0) {A C B O S : Type 0} where
  -- what holds of the names in the expressions, types and targets of a layer
  abbrev pub OwnStmt : st.Stmt-F A C B O S → Type 0
  OwnStmt (st.Assert span e) = Each P (expr_uses e)
  OwnStmt (st.Local span kind b ty e) = Each P (maybe_type_uses ty) × Each P (expr_uses e)
  OwnStmt (st.LocalVars span iss ty) = Each P (type_uses ty)
  OwnStmt (st.Assign span target e) = Each P (target_uses target) × Each P (expr_uses e)
  OwnStmt (st.Invoke span i ps es) = P (of_subprogram span i.text) × Each P (joined (map expr_uses ps)) × Each P (joined (map expr_uses es))
  OwnStmt (st.If span c first others last) = Each P (expr_uses c)
  OwnStmt (st.Case span e ass o) = Each P (expr_uses e)
  OwnStmt (st.For span i a d b l ss) = Each P (expr_uses a) × Each P (expr_uses b) × Each P (maybe_expr_uses l)
  OwnStmt (st.While span c l ss) = Each P (expr_uses c) × Each P (maybe_expr_uses l)
  OwnStmt (st.Repeat span ss c l) = Each P (expr_uses c) × Each P (maybe_expr_uses l)
  OwnStmt (st.Return span e) = Each P (maybe_expr_uses e)
  OwnStmt (st.Throw span e) = Each P (maybe_expr_uses e)
  OwnStmt (st.Print span kind iss) = Each P (joined (map item_uses iss))
  OwnStmt y = Unit {0}

  abbrev pub OwnAlternative : st.Alternative-F A C B O S → Type 0
  OwnAlternative (st.When ps e ss) = Each P (joined (map pattern_uses ps)) × Each P (maybe_expr_uses e)

  abbrev pub OwnCatcher : st.Catcher-F A C B O S → Type 0
  OwnCatcher (st.Catch i t ss) = P (of_type t.text)

  abbrev pub OwnBranch : st.ElseIf-F A C B O S → Type 0
  OwnBranch (st.ElseIf c ss) = Each P (expr_uses c)

module _ (P : Use → Type 0) (A C B O S : Type 0) (alternative_rule : st.Alternative-F A C B O S → A)
    (catcher_rule : st.Catcher-F A C B O S → C) (branch_rule : st.ElseIf-F A C B O S → B) (otherwise_rule : st.Otherwise-F A C B O S → O)
    (stmt_rule : st.Stmt-F A C B O S → S) (QA : A → Type 0) (QC : C → Type 0) (QB : B → Type 0) (QO : O → Type 0) (QS : S → Type 0) where
  abbrev alternative_found : Alternative → A
  alternative_found = fold-Alternative A C B O S alternative_rule catcher_rule branch_rule otherwise_rule stmt_rule

  abbrev catcher_found : Catcher → C
  catcher_found = fold-Catcher A C B O S alternative_rule catcher_rule branch_rule otherwise_rule stmt_rule

  abbrev branch_found : ElseIf → B
  branch_found = fold-ElseIf A C B O S alternative_rule catcher_rule branch_rule otherwise_rule stmt_rule

  abbrev otherwise_found : Otherwise → O
  otherwise_found = fold-Otherwise A C B O S alternative_rule catcher_rule branch_rule otherwise_rule stmt_rule

  abbrev stmt_found : Stmt → S
  stmt_found = fold-Stmt A C B O S alternative_rule catcher_rule branch_rule otherwise_rule stmt_rule

  abbrev pub GoodAlternative : Type 0
  GoodAlternative = (x : A) × QA x

  abbrev pub GoodCatcher : Type 0
  GoodCatcher = (x : C) × QC x

  abbrev pub GoodElseIf : Type 0
  GoodElseIf = (x : B) × QB x

  abbrev pub GoodOtherwise : Type 0
  GoodOtherwise = (x : O) × QO x

  abbrev pub GoodStmt : Type 0
  GoodStmt = (x : S) × QS x

  abbrev pub alternative_below : st.Alternative-F GoodAlternative GoodCatcher GoodElseIf GoodOtherwise GoodStmt → st.Alternative-F A C B O S
  alternative_below = map-Alternative GoodAlternative GoodCatcher GoodElseIf GoodOtherwise GoodStmt A C B O S (λ x. x.0) (λ x. x.0)
      (λ x. x.0) (λ x. x.0) (λ x. x.0)

  abbrev pub catcher_below : st.Catcher-F GoodAlternative GoodCatcher GoodElseIf GoodOtherwise GoodStmt → st.Catcher-F A C B O S
  catcher_below = map-Catcher GoodAlternative GoodCatcher GoodElseIf GoodOtherwise GoodStmt A C B O S (λ x. x.0) (λ x. x.0) (λ x. x.0)
      (λ x. x.0) (λ x. x.0)

  abbrev pub branch_below : st.ElseIf-F GoodAlternative GoodCatcher GoodElseIf GoodOtherwise GoodStmt → st.ElseIf-F A C B O S
  branch_below = map-ElseIf GoodAlternative GoodCatcher GoodElseIf GoodOtherwise GoodStmt A C B O S (λ x. x.0) (λ x. x.0) (λ x. x.0)
      (λ x. x.0) (λ x. x.0)

  abbrev pub otherwise_below : st.Otherwise-F GoodAlternative GoodCatcher GoodElseIf GoodOtherwise GoodStmt → st.Otherwise-F A C B O S
  otherwise_below = map-Otherwise GoodAlternative GoodCatcher GoodElseIf GoodOtherwise GoodStmt A C B O S (λ x. x.0) (λ x. x.0) (λ x. x.0)
      (λ x. x.0) (λ x. x.0)

  abbrev pub stmt_below : st.Stmt-F GoodAlternative GoodCatcher GoodElseIf GoodOtherwise GoodStmt → st.Stmt-F A C B O S
  stmt_below = map-Stmt GoodAlternative GoodCatcher GoodElseIf GoodOtherwise GoodStmt A C B O S (λ x. x.0) (λ x. x.0) (λ x. x.0) (λ x. x.0)
      (λ x. x.0)

  -- of what is found at a node, where it holds of what is found at its parts
  pub record Steps : Type 0 where
    pub alternative : (y : st.Alternative-F GoodAlternative GoodCatcher GoodElseIf GoodOtherwise GoodStmt) → OwnAlternative P y →
        QA (alternative_rule (alternative_below y))
    pub catcher : (y : st.Catcher-F GoodAlternative GoodCatcher GoodElseIf GoodOtherwise GoodStmt) → OwnCatcher P y →
        QC (catcher_rule (catcher_below y))
    pub branch : (y : st.ElseIf-F GoodAlternative GoodCatcher GoodElseIf GoodOtherwise GoodStmt) → OwnBranch P y →
        QB (branch_rule (branch_below y))
    pub otherwise : (y : st.Otherwise-F GoodAlternative GoodCatcher GoodElseIf GoodOtherwise GoodStmt) →
        QO (otherwise_rule (otherwise_below y))
    pub stmt : (y : st.Stmt-F GoodAlternative GoodCatcher GoodElseIf GoodOtherwise GoodStmt) → OwnStmt P y → QS (stmt_rule (stmt_below y))

  abbrev AlternativeHas : Alternative → Type 0
  AlternativeHas x = Each P (alternative_uses x) → QA (alternative_found x)

  abbrev CatcherHas : Catcher → Type 0
  CatcherHas x = Each P (catcher_uses x) → QC (catcher_found x)

  abbrev ElseIfHas : ElseIf → Type 0
  ElseIfHas x = Each P (branch_uses x) → QB (branch_found x)

  abbrev OtherwiseHas : Otherwise → Type 0
  OtherwiseHas x = Each P (otherwise_uses x) → QO (otherwise_found x)

  abbrev StmtHas : Stmt → Type 0
  StmtHas x = Each P (stmt_uses x) → QS (stmt_found x)

  abbrev alternative_opened : st.Alternative-F Alternative Catcher ElseIf Otherwise Stmt → st.Alternative-F A C B O S
  alternative_opened = map-Alternative Alternative Catcher ElseIf Otherwise Stmt A C B O S alternative_found catcher_found branch_found
      otherwise_found stmt_found

  abbrev alternative_using : st.Alternative-F Alternative Catcher ElseIf Otherwise Stmt → st.Alternative-F Uses Uses Uses Uses Uses
  alternative_using = map-Alternative Alternative Catcher ElseIf Otherwise Stmt Uses Uses Uses Uses Uses alternative_uses catcher_uses
      branch_uses otherwise_uses stmt_uses

  abbrev AlternativeKept : st.Alternative-F Alternative Catcher ElseIf Otherwise Stmt → Type 0
  AlternativeKept l = Each P (in_alternative (alternative_using l)) → Kept alternative_below (OwnAlternative P) (alternative_opened l)

  abbrev alternative_trees : st.Alternative-F ((x : Alternative) × AlternativeHas x) ((x : Catcher) × CatcherHas x)
      ((x : ElseIf) × ElseIfHas x) ((x : Otherwise) × OtherwiseHas x) ((x : Stmt) × StmtHas x) →
      st.Alternative-F Alternative Catcher ElseIf Otherwise Stmt
  alternative_trees = induction.alternative_trees AlternativeHas CatcherHas ElseIfHas OtherwiseHas StmtHas

  abbrev catcher_opened : st.Catcher-F Alternative Catcher ElseIf Otherwise Stmt → st.Catcher-F A C B O S
  catcher_opened = map-Catcher Alternative Catcher ElseIf Otherwise Stmt A C B O S alternative_found catcher_found branch_found
      otherwise_found stmt_found

  abbrev catcher_using : st.Catcher-F Alternative Catcher ElseIf Otherwise Stmt → st.Catcher-F Uses Uses Uses Uses Uses
  catcher_using = map-Catcher Alternative Catcher ElseIf Otherwise Stmt Uses Uses Uses Uses Uses alternative_uses catcher_uses branch_uses
      otherwise_uses stmt_uses

  abbrev CatcherKept : st.Catcher-F Alternative Catcher ElseIf Otherwise Stmt → Type 0
  CatcherKept l = Each P (in_catcher (catcher_using l)) → Kept catcher_below (OwnCatcher P) (catcher_opened l)

  abbrev catcher_trees : st.Catcher-F ((x : Alternative) × AlternativeHas x) ((x : Catcher) × CatcherHas x) ((x : ElseIf) × ElseIfHas x)
      ((x : Otherwise) × OtherwiseHas x) ((x : Stmt) × StmtHas x) → st.Catcher-F Alternative Catcher ElseIf Otherwise Stmt
  catcher_trees = induction.catcher_trees AlternativeHas CatcherHas ElseIfHas OtherwiseHas StmtHas

  abbrev branch_opened : st.ElseIf-F Alternative Catcher ElseIf Otherwise Stmt → st.ElseIf-F A C B O S
  branch_opened = map-ElseIf Alternative Catcher ElseIf Otherwise Stmt A C B O S alternative_found catcher_found branch_found
      otherwise_found stmt_found

  abbrev branch_using : st.ElseIf-F Alternative Catcher ElseIf Otherwise Stmt → st.ElseIf-F Uses Uses Uses Uses Uses
  branch_using = map-ElseIf Alternative Catcher ElseIf Otherwise Stmt Uses Uses Uses Uses Uses alternative_uses catcher_uses branch_uses
      otherwise_uses stmt_uses

  abbrev ElseIfKept : st.ElseIf-F Alternative Catcher ElseIf Otherwise Stmt → Type 0
  ElseIfKept l = Each P (in_branch (branch_using l)) → Kept branch_below (OwnBranch P) (branch_opened l)

  abbrev branch_trees : st.ElseIf-F ((x : Alternative) × AlternativeHas x) ((x : Catcher) × CatcherHas x) ((x : ElseIf) × ElseIfHas x)
      ((x : Otherwise) × OtherwiseHas x) ((x : Stmt) × StmtHas x) → st.ElseIf-F Alternative Catcher ElseIf Otherwise Stmt
  branch_trees = induction.branch_trees AlternativeHas CatcherHas ElseIfHas OtherwiseHas StmtHas

  abbrev otherwise_opened : st.Otherwise-F Alternative Catcher ElseIf Otherwise Stmt → st.Otherwise-F A C B O S
  otherwise_opened = map-Otherwise Alternative Catcher ElseIf Otherwise Stmt A C B O S alternative_found catcher_found branch_found
      otherwise_found stmt_found

  abbrev otherwise_using : st.Otherwise-F Alternative Catcher ElseIf Otherwise Stmt → st.Otherwise-F Uses Uses Uses Uses Uses
  otherwise_using = map-Otherwise Alternative Catcher ElseIf Otherwise Stmt Uses Uses Uses Uses Uses alternative_uses catcher_uses
      branch_uses otherwise_uses stmt_uses

  abbrev OtherwiseKept : st.Otherwise-F Alternative Catcher ElseIf Otherwise Stmt → Type 0
  OtherwiseKept l = Each P (in_otherwise (otherwise_using l)) → Kept otherwise_below (λ y. Unit {0}) (otherwise_opened l)

  abbrev otherwise_trees : st.Otherwise-F ((x : Alternative) × AlternativeHas x) ((x : Catcher) × CatcherHas x) ((x : ElseIf) × ElseIfHas x)
      ((x : Otherwise) × OtherwiseHas x) ((x : Stmt) × StmtHas x) → st.Otherwise-F Alternative Catcher ElseIf Otherwise Stmt
  otherwise_trees = induction.otherwise_trees AlternativeHas CatcherHas ElseIfHas OtherwiseHas StmtHas

  abbrev stmt_opened : st.Stmt-F Alternative Catcher ElseIf Otherwise Stmt → st.Stmt-F A C B O S
  stmt_opened = map-Stmt Alternative Catcher ElseIf Otherwise Stmt A C B O S alternative_found catcher_found branch_found otherwise_found
      stmt_found

  abbrev stmt_using : st.Stmt-F Alternative Catcher ElseIf Otherwise Stmt → st.Stmt-F Uses Uses Uses Uses Uses
  stmt_using = map-Stmt Alternative Catcher ElseIf Otherwise Stmt Uses Uses Uses Uses Uses alternative_uses catcher_uses branch_uses
      otherwise_uses stmt_uses

  abbrev StmtKept : st.Stmt-F Alternative Catcher ElseIf Otherwise Stmt → Type 0
  StmtKept l = Each P (in_stmt (stmt_using l)) → Kept stmt_below (OwnStmt P) (stmt_opened l)

  abbrev stmt_trees : st.Stmt-F ((x : Alternative) × AlternativeHas x) ((x : Catcher) × CatcherHas x) ((x : ElseIf) × ElseIfHas x)
      ((x : Otherwise) × OtherwiseHas x) ((x : Stmt) × StmtHas x) → st.Stmt-F Alternative Catcher ElseIf Otherwise Stmt
  stmt_trees = induction.stmt_trees AlternativeHas CatcherHas ElseIfHas OtherwiseHas StmtHas

  kept_alternative : (y : st.Alternative-F ((x : Alternative) × AlternativeHas x) ((x : Catcher) × CatcherHas x)
      ((x : ElseIf) × ElseIfHas x) ((x : Otherwise) × OtherwiseHas x) ((x : Stmt) × StmtHas x)) → AlternativeKept (alternative_trees y)
  kept_alternative (st.When ps e ss) g =
      let a = joined (map pattern_uses ps) in
      let b = maybe_expr_uses e in
      let c = joined (map stmt_uses (map (λ e. e.0) ss)) in
      let h = each_second P a (b ++ c) g in
      let xs = kept_list P stmt_uses stmt_found QS ss (each_second P b c h) in
      record { layer = st.When ps e xs.list; is = ap (λ l. st.When ps e l) xs.is; own = (each_first P a (b ++ c) g, each_first P b c h) }

  kept_catcher : (y : st.Catcher-F ((x : Alternative) × AlternativeHas x) ((x : Catcher) × CatcherHas x) ((x : ElseIf) × ElseIfHas x)
      ((x : Otherwise) × OtherwiseHas x) ((x : Stmt) × StmtHas x)) → CatcherKept (catcher_trees y)
  kept_catcher (st.Catch i t ss) g =
      let xs = kept_list P stmt_uses stmt_found QS ss g.1 in
      record { layer = st.Catch i t xs.list; is = ap (λ l. st.Catch i t l) xs.is; own = g.0 }

  kept_branch : (y : st.ElseIf-F ((x : Alternative) × AlternativeHas x) ((x : Catcher) × CatcherHas x) ((x : ElseIf) × ElseIfHas x)
      ((x : Otherwise) × OtherwiseHas x) ((x : Stmt) × StmtHas x)) → ElseIfKept (branch_trees y)
  kept_branch (st.ElseIf c ss) g =
      let a = expr_uses c in
      let b = joined (map stmt_uses (map (λ e. e.0) ss)) in
      let xs = kept_list P stmt_uses stmt_found QS ss (each_second P a b g) in
      record { layer = st.ElseIf c xs.list; is = ap (λ l. st.ElseIf c l) xs.is; own = each_first P a b g }

  kept_otherwise : (y : st.Otherwise-F ((x : Alternative) × AlternativeHas x) ((x : Catcher) × CatcherHas x) ((x : ElseIf) × ElseIfHas x)
      ((x : Otherwise) × OtherwiseHas x) ((x : Stmt) × StmtHas x)) → OtherwiseKept (otherwise_trees y)
  kept_otherwise st.NoOtherwise g = record { layer = st.NoOtherwise; is = refl; own = tt }
  kept_otherwise (st.Otherwise ss) g =
      let xs = kept_list P stmt_uses stmt_found QS ss g in
      record { layer = st.Otherwise xs.list; is = ap (λ l. st.Otherwise l) xs.is; own = tt }

  kept_stmt : (y : st.Stmt-F ((x : Alternative) × AlternativeHas x) ((x : Catcher) × CatcherHas x) ((x : ElseIf) × ElseIfHas x)
      ((x : Otherwise) × OtherwiseHas x) ((x : Stmt) × StmtHas x)) → StmtKept (stmt_trees y)
  kept_stmt (st.Pass span) g = record { layer = st.Pass span; is = refl; own = tt }
  kept_stmt (st.Unreachable span) g = record { layer = st.Unreachable span; is = refl; own = tt }
  kept_stmt (st.Assert span e) g = record { layer = st.Assert span e; is = refl; own = g }
  kept_stmt (st.Local span kind b ty e) g =
      record {
        layer = st.Local span kind b ty e;
        is = refl;
        own = (each_first P (maybe_type_uses ty) (expr_uses e) g, each_second P (maybe_type_uses ty) (expr_uses e) g);
      }
  kept_stmt (st.LocalVars span iss ty) g = record { layer = st.LocalVars span iss ty; is = refl; own = g }
  kept_stmt (st.Assign span x e) g =
      record {
        layer = st.Assign span x e;
        is = refl;
        own = (each_first P (target_uses x) (expr_uses e) g, each_second P (target_uses x) (expr_uses e) g);
      }
  kept_stmt (st.Invoke span i ps es) g =
      let a = joined (map expr_uses ps) in
      let b = joined (map expr_uses es) in
      record { layer = st.Invoke span i ps es; is = refl; own = (g.0, each_first P a b g.1, each_second P a b g.1) }
  kept_stmt (st.If span c first others last) g =
      let a = expr_uses c in
      let b = joined (map stmt_uses (map (λ e. e.0) first)) in
      let d = joined (map branch_uses (map (λ e. e.0) others)) in
      let e = joined (map stmt_uses (map (λ e. e.0) last)) in
      let h = each_second P a (b ++ (d ++ e)) g in
      let i = each_second P b (d ++ e) h in
      let xs = kept_list P stmt_uses stmt_found QS first (each_first P b (d ++ e) h) in
      let ys = kept_list P branch_uses branch_found QB others (each_first P d e i) in
      let zs = kept_list P stmt_uses stmt_found QS last (each_second P d e i) in
      record {
        layer = st.If span c xs.list ys.list zs.list;
        is = λ j. st.If span c (xs.is j) (ys.is j) (zs.is j);
        own = each_first P a (b ++ (d ++ e)) g;
      }
  kept_stmt (st.Case span e ass o) g =
      let a = expr_uses e in
      let b = joined (map alternative_uses (map (λ e. e.0) ass)) in
      let c = otherwise_uses o.0 in
      let h = each_second P a (b ++ c) g in
      let xs = kept_list P alternative_uses alternative_found QA ass (each_first P b c h) in
      record {
        layer = st.Case span e xs.list (otherwise_found o.0, o.1 (each_second P b c h));
        is = λ j. st.Case span e (xs.is j) (otherwise_found o.0);
        own = each_first P a (b ++ c) g;
      }
  kept_stmt (st.For span i a d b l ss) g =
      let u = expr_uses a in
      let v = expr_uses b in
      let n = maybe_expr_uses l in
      let m = joined (map stmt_uses (map (λ e. e.0) ss)) in
      let h = each_second P u (v ++ (n ++ m)) g in
      let k = each_second P v (n ++ m) h in
      let xs = kept_list P stmt_uses stmt_found QS ss (each_second P n m k) in
      record {
        layer = st.For span i a d b l xs.list;
        is = λ j. st.For span i a d b l (xs.is j);
        own = (each_first P u (v ++ (n ++ m)) g, each_first P v (n ++ m) h, each_first P n m k);
      }
  kept_stmt (st.While span c l ss) g =
      let u = expr_uses c in
      let n = maybe_expr_uses l in
      let m = joined (map stmt_uses (map (λ e. e.0) ss)) in
      let h = each_second P u (n ++ m) g in
      let xs = kept_list P stmt_uses stmt_found QS ss (each_second P n m h) in
      record {
        layer = st.While span c l xs.list;
        is = λ j. st.While span c l (xs.is j);
        own = (each_first P u (n ++ m) g, each_first P n m h);
      }
  kept_stmt (st.Repeat span ss c l) g =
      let m = joined (map stmt_uses (map (λ e. e.0) ss)) in
      let u = expr_uses c in
      let n = maybe_expr_uses l in
      let h = each_second P m (u ++ n) g in
      let xs = kept_list P stmt_uses stmt_found QS ss (each_first P m (u ++ n) g) in
      record { layer = st.Repeat span xs.list c l; is = λ j. st.Repeat span (xs.is j) c l; own = (each_first P u n h, each_second P u n h) }
  kept_stmt (st.Return span e) g = record { layer = st.Return span e; is = refl; own = g }
  kept_stmt (st.Throw span e) g = record { layer = st.Throw span e; is = refl; own = g }
  kept_stmt (st.Try span ss cs o) g =
      let a = joined (map stmt_uses (map (λ e. e.0) ss)) in
      let b = joined (map catcher_uses (map (λ e. e.0) cs)) in
      let c = otherwise_uses o.0 in
      let h = each_second P a (b ++ c) g in
      let xs = kept_list P stmt_uses stmt_found QS ss (each_first P a (b ++ c) g) in
      let ys = kept_list P catcher_uses catcher_found QC cs (each_first P b c h) in
      record {
        layer = st.Try span xs.list ys.list (otherwise_found o.0, o.1 (each_second P b c h));
        is = λ j. st.Try span (xs.is j) (ys.is j) (otherwise_found o.0);
        own = tt;
      }
  kept_stmt (st.Print span kind iss) g = record { layer = st.Print span kind iss; is = refl; own = g }

  module _ (s : Steps) where
    alternative_has : (y : st.Alternative-F ((x : Alternative) × AlternativeHas x) ((x : Catcher) × CatcherHas x)
        ((x : ElseIf) × ElseIfHas x) ((x : Otherwise) × OtherwiseHas x) ((x : Stmt) × StmtHas x)) →
        AlternativeHas (roll-Alternative (alternative_trees y))
    alternative_has y g =
        let k = kept_alternative y (subst (Each P)
        (fold-roll-Alternative Uses Uses Uses Uses Uses in_alternative in_catcher in_branch in_otherwise in_stmt
        (alternative_trees y)) g) in
        subst QA (sym (fold-roll-Alternative A C B O S alternative_rule catcher_rule branch_rule otherwise_rule stmt_rule
        (alternative_trees y))) (subst (λ z. QA (alternative_rule z)) k.is (s.alternative k.layer k.own))

    catcher_has : (y : st.Catcher-F ((x : Alternative) × AlternativeHas x) ((x : Catcher) × CatcherHas x) ((x : ElseIf) × ElseIfHas x)
        ((x : Otherwise) × OtherwiseHas x) ((x : Stmt) × StmtHas x)) → CatcherHas (roll-Catcher (catcher_trees y))
    catcher_has y g =
        let k = kept_catcher y (subst (Each P)
        (fold-roll-Catcher Uses Uses Uses Uses Uses in_alternative in_catcher in_branch in_otherwise in_stmt (catcher_trees y)) g) in
        subst QC (sym (fold-roll-Catcher A C B O S alternative_rule catcher_rule branch_rule otherwise_rule stmt_rule (catcher_trees y)))
        (subst (λ z. QC (catcher_rule z)) k.is (s.catcher k.layer k.own))

    branch_has : (y : st.ElseIf-F ((x : Alternative) × AlternativeHas x) ((x : Catcher) × CatcherHas x) ((x : ElseIf) × ElseIfHas x)
        ((x : Otherwise) × OtherwiseHas x) ((x : Stmt) × StmtHas x)) → ElseIfHas (roll-ElseIf (branch_trees y))
    branch_has y g =
        let k = kept_branch y (subst (Each P)
        (fold-roll-ElseIf Uses Uses Uses Uses Uses in_alternative in_catcher in_branch in_otherwise in_stmt (branch_trees y)) g) in
        subst QB (sym (fold-roll-ElseIf A C B O S alternative_rule catcher_rule branch_rule otherwise_rule stmt_rule (branch_trees y)))
        (subst (λ z. QB (branch_rule z)) k.is (s.branch k.layer k.own))

    otherwise_has : (y : st.Otherwise-F ((x : Alternative) × AlternativeHas x) ((x : Catcher) × CatcherHas x) ((x : ElseIf) × ElseIfHas x)
        ((x : Otherwise) × OtherwiseHas x) ((x : Stmt) × StmtHas x)) → OtherwiseHas (roll-Otherwise (otherwise_trees y))
    otherwise_has y g =
        let k = kept_otherwise y (subst (Each P)
        (fold-roll-Otherwise Uses Uses Uses Uses Uses in_alternative in_catcher in_branch in_otherwise in_stmt (otherwise_trees y)) g) in
        subst QO (sym (fold-roll-Otherwise A C B O S alternative_rule catcher_rule branch_rule otherwise_rule stmt_rule
        (otherwise_trees y))) (subst (λ z. QO (otherwise_rule z)) k.is (s.otherwise k.layer))

    stmt_has : (y : st.Stmt-F ((x : Alternative) × AlternativeHas x) ((x : Catcher) × CatcherHas x) ((x : ElseIf) × ElseIfHas x)
        ((x : Otherwise) × OtherwiseHas x) ((x : Stmt) × StmtHas x)) → StmtHas (roll-Stmt (stmt_trees y))
    stmt_has y g =
        let k = kept_stmt y (subst (Each P)
        (fold-roll-Stmt Uses Uses Uses Uses Uses in_alternative in_catcher in_branch in_otherwise in_stmt (stmt_trees y)) g) in
        subst QS (sym (fold-roll-Stmt A C B O S alternative_rule catcher_rule branch_rule otherwise_rule stmt_rule (stmt_trees y)))
        (subst (λ z. QS (stmt_rule z)) k.is (s.stmt k.layer k.own))

    steps : induction.Steps AlternativeHas CatcherHas ElseIfHas OtherwiseHas StmtHas
    steps = record { alternative = alternative_has; catcher = catcher_has; branch = branch_has; otherwise = otherwise_has; stmt = stmt_has }

    pub stmt_holds : (x : Stmt) → Each P (stmt_uses x) → QS (stmt_found x)
    stmt_holds = induction.all_stmts AlternativeHas CatcherHas ElseIfHas OtherwiseHas StmtHas steps
