-- What has no accessors, and no bodies that replace others, is written out as itself.
use Rattle.std.proofs.Common.{◌≡◌, List, [], ◌∷◌, ◌++◌, map, Ok, refl, ap, ap₂, sym, ◌∙◌}
use Rattle.asl_syn.specs.declared.tree.Stmt.{Stmt, roll-Stmt}
use Rattle.asl_syn.specs.declared.tree.Stmt.TheVariants as stm
use Rattle.asl_syn.specs.declared.tree.ElseIf.{ElseIf, roll-ElseIf}
use Rattle.asl_syn.specs.declared.tree.ElseIf.TheVariants as ei
use Rattle.asl_syn.specs.declared.tree.Alternative.{Alternative, roll-Alternative}
use Rattle.asl_syn.specs.declared.tree.Alternative.TheVariants as al
use Rattle.asl_syn.specs.declared.tree.Otherwise.{Otherwise, roll-Otherwise}
use Rattle.asl_syn.specs.declared.tree.Otherwise.TheVariants as ot
use Rattle.asl_syn.specs.declared.tree.Catcher.{Catcher, roll-Catcher}
use Rattle.asl_syn.specs.declared.tree.Catcher.TheVariants as ca
use Rattle.asl_syn.specs.declared.tree.Decl.{Decl}
use Rattle.asl_syn.specs.declared.tree.Decl.TheVariants as dc
use Rattle.asl_syn.specs.declared.tree.Alternative.TheOpen as st
use Rattle.asl_syn.specs.declared.tree.Alternative.TheFolds.{fold-roll-Alternative, fold-roll-Catcher, fold-roll-ElseIf, fold-roll-Otherwise, fold-roll-Stmt, map-Stmt}
use Rattle.asl_syn.specs.declared.read.ReadAlternative.{ReadAlternative, roll-ReadAlternative}
use Rattle.asl_syn.specs.declared.read.ReadCatcher.{ReadCatcher, roll-ReadCatcher}
use Rattle.asl_syn.specs.declared.read.ReadElseIf.{ReadElseIf, roll-ReadElseIf}
use Rattle.asl_syn.specs.declared.read.ReadOtherwise.{ReadOtherwise, roll-ReadOtherwise}
use Rattle.asl_syn.specs.declared.read.ReadStmt.{ReadStmt, roll-ReadStmt}
use Rattle.asl_syn.specs.declared.read.ReadDecl.{ReadDecl}
use Rattle.asl_syn.specs.declared.read.ReadAlternative.TheOpen as node
use Rattle.asl_syn.specs.declared.read.ReadAlternative.TheFolds.{fold-roll-ReadAlternative, fold-roll-ReadCatcher, fold-roll-ReadElseIf, fold-roll-ReadOtherwise, fold-roll-ReadStmt}
use Rattle.asl_syn.specs.declared.read.ReadAlternative.TheFolds.{map-ReadAlternative, map-ReadCatcher, map-ReadElseIf, map-ReadOtherwise, map-ReadStmt}
use Rattle.asl_rules.specs.declared.entry.Entry.{Entry}
use Rattle.asl_rules.specs.Tests.{Tests}
use Rattle.asl_rules.specs.declarations.WrittenOut.{joined, alternative_layer_written, catcher_layer_written, else_if_layer_written, otherwise_layer_written, stmt_layer_written}
use Rattle.asl_rules.specs.declarations.WrittenOut.{alternative_written, catcher_written, else_if_written, otherwise_written, stmt_written, list_written, decl_written, written_out}
use Rattle.asl_rules.specs.declarations.Replacing.{header_of, in_place, without_implementations, headers_matched, bodies_matched, defaults, replaced}
use Rattle.asl_rules.specs.declarations.Programs.{verdict, read_verdict, default_decls, final_decls}
use Rattle.asl_laws.specs.Plain.{alternative_layer_read, catcher_layer_read, else_if_layer_read, otherwise_layer_read, stmt_layer_read}
use Rattle.asl_laws.specs.Plain.{alternative_read, catcher_read, else_if_read, otherwise_read, stmt_read, decl_read, as_read}
use Rattle.asl_laws.proofs.names.StmtInduction as induction
use Rattle.asl_laws.proofs.verdict.ReadVerdict.{read_same}

-- ---- statements

abbrev SameAlternative : Alternative → Type 0
SameAlternative x = alternative_written (alternative_read x) ≡ x

abbrev SameCatcher : Catcher → Type 0
SameCatcher x = catcher_written (catcher_read x) ≡ x

abbrev SameElseIf : ElseIf → Type 0
SameElseIf x = else_if_written (else_if_read x) ≡ x

abbrev SameOtherwise : Otherwise → Type 0
SameOtherwise x = otherwise_written (otherwise_read x) ≡ x

abbrev SameStmt : Stmt → Type 0
SameStmt x = stmt_written (stmt_read x) ≡ x ∷ []

abbrev WithStmt : Type 0
WithStmt = (x : Stmt) × SameStmt x

-- one layer of what is read, written out
stmt_is : (z : node.ReadStmt-F ReadAlternative ReadCatcher ReadElseIf ReadOtherwise ReadStmt) →
    stmt_written (roll-ReadStmt z) ≡ stmt_layer_written (map-ReadStmt ReadAlternative ReadCatcher ReadElseIf ReadOtherwise ReadStmt Alternative Catcher ElseIf Otherwise (List Stmt) alternative_written catcher_written else_if_written otherwise_written stmt_written z)
stmt_is z = fold-roll-ReadStmt Alternative Catcher ElseIf Otherwise (List Stmt) alternative_layer_written catcher_layer_written else_if_layer_written otherwise_layer_written stmt_layer_written z

else_if_is : (z : node.ReadElseIf-F ReadAlternative ReadCatcher ReadElseIf ReadOtherwise ReadStmt) →
    else_if_written (roll-ReadElseIf z) ≡ else_if_layer_written (map-ReadElseIf ReadAlternative ReadCatcher ReadElseIf ReadOtherwise ReadStmt Alternative Catcher ElseIf Otherwise (List Stmt) alternative_written catcher_written else_if_written otherwise_written stmt_written z)
else_if_is z = fold-roll-ReadElseIf Alternative Catcher ElseIf Otherwise (List Stmt) alternative_layer_written catcher_layer_written else_if_layer_written otherwise_layer_written stmt_layer_written z

alternative_is : (z : node.ReadAlternative-F ReadAlternative ReadCatcher ReadElseIf ReadOtherwise ReadStmt) →
    alternative_written (roll-ReadAlternative z) ≡ alternative_layer_written (map-ReadAlternative ReadAlternative ReadCatcher ReadElseIf ReadOtherwise ReadStmt Alternative Catcher ElseIf Otherwise (List Stmt) alternative_written catcher_written else_if_written otherwise_written stmt_written z)
alternative_is z = fold-roll-ReadAlternative Alternative Catcher ElseIf Otherwise (List Stmt) alternative_layer_written catcher_layer_written else_if_layer_written otherwise_layer_written stmt_layer_written z

catcher_is : (z : node.ReadCatcher-F ReadAlternative ReadCatcher ReadElseIf ReadOtherwise ReadStmt) →
    catcher_written (roll-ReadCatcher z) ≡ catcher_layer_written (map-ReadCatcher ReadAlternative ReadCatcher ReadElseIf ReadOtherwise ReadStmt Alternative Catcher ElseIf Otherwise (List Stmt) alternative_written catcher_written else_if_written otherwise_written stmt_written z)
catcher_is z = fold-roll-ReadCatcher Alternative Catcher ElseIf Otherwise (List Stmt) alternative_layer_written catcher_layer_written else_if_layer_written otherwise_layer_written stmt_layer_written z

otherwise_is : (z : node.ReadOtherwise-F ReadAlternative ReadCatcher ReadElseIf ReadOtherwise ReadStmt) →
    otherwise_written (roll-ReadOtherwise z) ≡ otherwise_layer_written (map-ReadOtherwise ReadAlternative ReadCatcher ReadElseIf ReadOtherwise ReadStmt Alternative Catcher ElseIf Otherwise (List Stmt) alternative_written catcher_written else_if_written otherwise_written stmt_written z)
otherwise_is z = fold-roll-ReadOtherwise Alternative Catcher ElseIf Otherwise (List Stmt) alternative_layer_written catcher_layer_written else_if_layer_written otherwise_layer_written stmt_layer_written z

-- and of what is not, as it is read
read_is : (x : st.Stmt-F Alternative Catcher ElseIf Otherwise Stmt) →
    stmt_read (roll-Stmt x) ≡ stmt_layer_read (map-Stmt Alternative Catcher ElseIf Otherwise Stmt ReadAlternative ReadCatcher ReadElseIf ReadOtherwise ReadStmt alternative_read catcher_read else_if_read otherwise_read stmt_read x)
read_is x = fold-roll-Stmt ReadAlternative ReadCatcher ReadElseIf ReadOtherwise ReadStmt alternative_layer_read catcher_layer_read else_if_layer_read otherwise_layer_read stmt_layer_read x

-- ---- lists

same_each : {A B : Type 0} (w : B → A) (r : A → B) (ys : List ((x : A) × (w (r x) ≡ x))) → map w (map r (map (λ y. y.0) ys)) ≡ map (λ y. y.0) ys
same_each w r [] = refl
same_each w r (y ∷ ys) = ap₂ (λ x xs. x ∷ xs) y.1 (same_each w r ys)

same_list : (ys : List WithStmt) → joined (map stmt_written (map stmt_read (map (λ y. y.0) ys))) ≡ map (λ y. y.0) ys
same_list [] = refl
same_list (y ∷ ys) = ap₂ (λ xs ys. xs ++ ys) y.1 (same_list ys)

-- ---- each form

abbrev Layer : Type 0
Layer = st.Stmt-F ((x : Alternative) × SameAlternative x) ((x : Catcher) × SameCatcher x) ((x : ElseIf) × SameElseIf x) ((x : Otherwise) × SameOtherwise x) WithStmt

abbrev layer_trees : Layer → st.Stmt-F Alternative Catcher ElseIf Otherwise Stmt
layer_trees = induction.stmt_trees SameAlternative SameCatcher SameElseIf SameOtherwise SameStmt

-- a form that is read as it stands
simple_same : (x : st.Stmt-F Alternative Catcher ElseIf Otherwise Stmt) (s : Stmt) → stmt_read (roll-Stmt x) ≡ roll-ReadStmt (node.Simple s) →
    s ≡ roll-Stmt x → SameStmt (roll-Stmt x)
simple_same x s h k = ap stmt_written h ∙ stmt_is (node.Simple s) ∙ ap (λ s. s ∷ []) k

stmt_same : (y : Layer) → SameStmt (roll-Stmt (layer_trees y))
unfolding roll-Stmt roll-ReadStmt denote.Hole.Carrier.roll
stmt_same (st.Pass at) = simple_same (st.Pass at) (stm.Pass at) (read_is (st.Pass at)) refl
stmt_same (st.Unreachable at) = simple_same (st.Unreachable at) (stm.Unreachable at) (read_is (st.Unreachable at)) refl
stmt_same (st.Assert at e) = simple_same (st.Assert at e) (stm.Assert at e) (read_is (st.Assert at e)) refl
stmt_same (st.Print at kind iss) = simple_same (st.Print at kind iss) (stm.Print at kind iss) (read_is (st.Print at kind iss)) refl
stmt_same (st.Local at kind b ty e) = simple_same (st.Local at kind b ty e) (stm.Local at kind b ty e) (read_is (st.Local at kind b ty e)) refl
stmt_same (st.LocalVars at iss ty) = simple_same (st.LocalVars at iss ty) (stm.LocalVars at iss ty) (read_is (st.LocalVars at iss ty)) refl
stmt_same (st.Assign at t e) = simple_same (st.Assign at t e) (stm.Assign at t e) (read_is (st.Assign at t e)) refl
stmt_same (st.Invoke at i ps es) = simple_same (st.Invoke at i ps es) (stm.Invoke at i ps es) (read_is (st.Invoke at i ps es)) refl
stmt_same (st.Return at e) = simple_same (st.Return at e) (stm.Return at e) (read_is (st.Return at e)) refl
stmt_same (st.Throw at e) = simple_same (st.Throw at e) (stm.Throw at e) (read_is (st.Throw at e)) refl
stmt_same (st.If at c first others last) =
    ap stmt_written (read_is (layer_trees (st.If at c first others last)))
    ∙ stmt_is (node.If at c (map stmt_read (map (λ y. y.0) first)) (map else_if_read (map (λ y. y.0) others)) (map stmt_read (map (λ y. y.0) last)))
    ∙ λ i. stm.If at c (same_list first i) (same_each else_if_written else_if_read others i) (same_list last i) ∷ []
stmt_same (st.Case at e xs last) =
    ap stmt_written (read_is (layer_trees (st.Case at e xs last)))
    ∙ stmt_is (node.Case at e (map alternative_read (map (λ y. y.0) xs)) (otherwise_read last.0))
    ∙ λ i. stm.Case at e (same_each alternative_written alternative_read xs i) (last.1 i) ∷ []
stmt_same (st.For at i a d b most ss) =
    ap stmt_written (read_is (layer_trees (st.For at i a d b most ss)))
    ∙ stmt_is (node.For at i a d b most (map stmt_read (map (λ y. y.0) ss)))
    ∙ λ k. stm.For at i a d b most (same_list ss k) ∷ []
stmt_same (st.While at c most ss) =
    ap stmt_written (read_is (layer_trees (st.While at c most ss)))
    ∙ stmt_is (node.While at c most (map stmt_read (map (λ y. y.0) ss)))
    ∙ λ i. stm.While at c most (same_list ss i) ∷ []
stmt_same (st.Repeat at ss c most) =
    ap stmt_written (read_is (layer_trees (st.Repeat at ss c most)))
    ∙ stmt_is (node.Repeat at (map stmt_read (map (λ y. y.0) ss)) c most)
    ∙ λ i. stm.Repeat at (same_list ss i) c most ∷ []
stmt_same (st.Try at ss cs last) =
    ap stmt_written (read_is (layer_trees (st.Try at ss cs last)))
    ∙ stmt_is (node.Try at (map stmt_read (map (λ y. y.0) ss)) (map catcher_read (map (λ y. y.0) cs)) (otherwise_read last.0))
    ∙ λ i. stm.Try at (same_list ss i) (same_each catcher_written catcher_read cs i) (last.1 i) ∷ []

else_if_same : (y : st.ElseIf-F ((x : Alternative) × SameAlternative x) ((x : Catcher) × SameCatcher x) ((x : ElseIf) × SameElseIf x) ((x : Otherwise) × SameOtherwise x) WithStmt) →
    SameElseIf (roll-ElseIf (induction.branch_trees SameAlternative SameCatcher SameElseIf SameOtherwise SameStmt y))
unfolding roll-ElseIf roll-ReadElseIf denote.Hole.Carrier.roll
else_if_same (st.ElseIf c ss) =
    ap else_if_written (fold-roll-ElseIf ReadAlternative ReadCatcher ReadElseIf ReadOtherwise ReadStmt alternative_layer_read catcher_layer_read else_if_layer_read otherwise_layer_read stmt_layer_read (st.ElseIf c (map (λ y. y.0) ss)))
    ∙ else_if_is (node.ElseIf c (map stmt_read (map (λ y. y.0) ss)))
    ∙ λ i. ei.ElseIf c (same_list ss i)

alternative_same : (y : st.Alternative-F ((x : Alternative) × SameAlternative x) ((x : Catcher) × SameCatcher x) ((x : ElseIf) × SameElseIf x) ((x : Otherwise) × SameOtherwise x) WithStmt) →
    SameAlternative (roll-Alternative (induction.alternative_trees SameAlternative SameCatcher SameElseIf SameOtherwise SameStmt y))
unfolding roll-Alternative roll-ReadAlternative denote.Hole.Carrier.roll
alternative_same (st.When ps e ss) =
    ap alternative_written (fold-roll-Alternative ReadAlternative ReadCatcher ReadElseIf ReadOtherwise ReadStmt alternative_layer_read catcher_layer_read else_if_layer_read otherwise_layer_read stmt_layer_read (st.When ps e (map (λ y. y.0) ss)))
    ∙ alternative_is (node.When ps e (map stmt_read (map (λ y. y.0) ss)))
    ∙ λ i. al.When ps e (same_list ss i)

catcher_same : (y : st.Catcher-F ((x : Alternative) × SameAlternative x) ((x : Catcher) × SameCatcher x) ((x : ElseIf) × SameElseIf x) ((x : Otherwise) × SameOtherwise x) WithStmt) →
    SameCatcher (roll-Catcher (induction.catcher_trees SameAlternative SameCatcher SameElseIf SameOtherwise SameStmt y))
unfolding roll-Catcher roll-ReadCatcher denote.Hole.Carrier.roll
catcher_same (st.Catch i t ss) =
    ap catcher_written (fold-roll-Catcher ReadAlternative ReadCatcher ReadElseIf ReadOtherwise ReadStmt alternative_layer_read catcher_layer_read else_if_layer_read otherwise_layer_read stmt_layer_read (st.Catch i t (map (λ y. y.0) ss)))
    ∙ catcher_is (node.Catch i t (map stmt_read (map (λ y. y.0) ss)))
    ∙ λ k. ca.Catch i t (same_list ss k)

otherwise_same : (y : st.Otherwise-F ((x : Alternative) × SameAlternative x) ((x : Catcher) × SameCatcher x) ((x : ElseIf) × SameElseIf x) ((x : Otherwise) × SameOtherwise x) WithStmt) →
    SameOtherwise (roll-Otherwise (induction.otherwise_trees SameAlternative SameCatcher SameElseIf SameOtherwise SameStmt y))
unfolding roll-Otherwise roll-ReadOtherwise denote.Hole.Carrier.roll
otherwise_same st.NoOtherwise =
    ap otherwise_written (fold-roll-Otherwise ReadAlternative ReadCatcher ReadElseIf ReadOtherwise ReadStmt alternative_layer_read catcher_layer_read else_if_layer_read otherwise_layer_read stmt_layer_read st.NoOtherwise)
    ∙ otherwise_is node.NoOtherwise
otherwise_same (st.Otherwise ss) =
    ap otherwise_written (fold-roll-Otherwise ReadAlternative ReadCatcher ReadElseIf ReadOtherwise ReadStmt alternative_layer_read catcher_layer_read else_if_layer_read otherwise_layer_read stmt_layer_read (st.Otherwise (map (λ y. y.0) ss)))
    ∙ otherwise_is (node.Otherwise (map stmt_read (map (λ y. y.0) ss)))
    ∙ λ i. ot.Otherwise (same_list ss i)

steps : induction.Steps SameAlternative SameCatcher SameElseIf SameOtherwise SameStmt
steps = record { alternative = alternative_same; catcher = catcher_same; branch = else_if_same; otherwise = otherwise_same; stmt = stmt_same }

each_same : (s : Stmt) → SameStmt s
each_same = induction.all_stmts SameAlternative SameCatcher SameElseIf SameOtherwise SameStmt steps

body_same : (ss : List Stmt) → list_written (map stmt_read ss) ≡ ss
body_same [] = refl
body_same (s ∷ ss) = ap₂ (λ xs ys. xs ++ ys) (each_same s) (body_same ss)

-- ---- declarations

decl_same : (d : Decl) → decl_written (decl_read d) ≡ d ∷ []
decl_same (dc.Type d) = refl
decl_same (dc.Storage d) = refl
decl_same (dc.Func f) = ap (λ ss. dc.Func (record f { body = ss }) ∷ []) (body_same f.body)

written_same : (ds : List Decl) → written_out (as_read ds) ≡ ds
written_same [] = refl
written_same (d ∷ ds) = ap₂ (λ xs ys. xs ++ ys) (decl_same d) (written_same ds)

-- no body has a word, so none replaces another
module _ (all : List ReadDecl) where
  stay : (ds : List Decl) → without_implementations (λ d. in_place all d (header_of d)) (as_read ds) ≡ as_read ds
  stay [] = refl
  stay (dc.Type d ∷ ds) = ap (λ xs. decl_read (dc.Type d) ∷ xs) (stay ds)
  stay (dc.Storage d ∷ ds) = ap (λ xs. decl_read (dc.Storage d) ∷ xs) (stay ds)
  stay (dc.Func f ∷ ds) = ap (λ xs. decl_read (dc.Func f) ∷ xs) (stay ds)

  matched : (before : List ReadDecl) (ds : List Decl) → headers_matched all before (as_read ds) ≡ Ok tt
  matched before [] = refl
  matched before (dc.Type d ∷ ds) = matched (before ++ decl_read (dc.Type d) ∷ []) ds
  matched before (dc.Storage d ∷ ds) = matched (before ++ decl_read (dc.Storage d) ∷ []) ds
  matched before (dc.Func f ∷ ds) = matched (before ++ decl_read (dc.Func f) ∷ []) ds

default_stay : (ds : List Decl) → without_implementations (λ d. d) (as_read ds) ≡ as_read ds
default_stay [] = refl
default_stay (dc.Type d ∷ ds) = ap (λ xs. decl_read (dc.Type d) ∷ xs) (default_stay ds)
default_stay (dc.Storage d ∷ ds) = ap (λ xs. decl_read (dc.Storage d) ∷ xs) (default_stay ds)
default_stay (dc.Func f ∷ ds) = ap (λ xs. decl_read (dc.Func f) ∷ xs) (default_stay ds)

pub default_same : (ds : List Decl) → default_decls (as_read ds) ≡ ds
unfolding defaults
default_same ds = ap written_out (default_stay ds) ∙ written_same ds

pub final_same : (ds : List Decl) → final_decls (as_read ds) ≡ ds
unfolding replaced
final_same ds = ap written_out (stay (as_read ds) ds) ∙ written_same ds

bodies_same : (ds : List Decl) → bodies_matched (as_read ds) ≡ Ok tt
unfolding bodies_matched
bodies_same ds = matched (as_read ds) [] ds

pub verdict_same : (e : Entry) (ds : List Decl) (t : Tests) → read_verdict e (as_read ds) t ≡ verdict e ds t
verdict_same e ds t =
    read_same e (as_read ds) t (bodies_same ds) (default_same ds ∙ sym (final_same ds))
    ∙ ap (λ ds. verdict e ds t) (final_same ds)
