-- The names that statements and subprograms use, in source order, as `UsedNames` says it of expressions, written types and declarations
-- outside bodies. No rule asks for them: they say what a judgement of statements depends on.
use Rattle.std.specs.Prelude.{List, [], ◌∷◌, ◌++◌, map}
use Rattle.asl_syn.specs.declared.tree.Suffix.{Suffix}
use Rattle.asl_syn.specs.declared.tree.Suffix.TheVariants.{FieldOf, FieldsOf, SlicesOf, ElementOf}
use Rattle.asl_syn.specs.declared.tree.PlacedSuffix.{PlacedSuffix}
use Rattle.asl_syn.specs.declared.tree.Target.{Target, fold-Target}
use Rattle.asl_syn.specs.declared.tree.Target.TheOpen as tg
use Rattle.asl_syn.specs.declared.tree.PrintItem.{PrintItem}
use Rattle.asl_syn.specs.declared.tree.PrintItem.TheVariants.{Verbatim, Shown}
use Rattle.asl_syn.specs.declared.tree.Alternative.{Alternative}
use Rattle.asl_syn.specs.declared.tree.Catcher.{Catcher}
use Rattle.asl_syn.specs.declared.tree.ElseIf.{ElseIf}
use Rattle.asl_syn.specs.declared.tree.Otherwise.{Otherwise}
use Rattle.asl_syn.specs.declared.tree.Stmt.{Stmt}
use Rattle.asl_syn.specs.declared.tree.Alternative.TheOpen as st
use Rattle.asl_syn.specs.declared.tree.Alternative.TheFolds.{fold-Alternative, fold-Catcher, fold-ElseIf, fold-Otherwise, fold-Stmt}
use Rattle.asl_syn.specs.declared.tree.Param.{Param}
use Rattle.asl_syn.specs.declared.tree.Func.{Func}
use Rattle.asl_syn.specs.declared.tree.Decl.{Decl}
use Rattle.asl_syn.specs.declared.tree.Decl.TheVariants as dc
use Rattle.asl_rules.specs.declarations.UsedNames.{Uses, of_value, of_subprogram, of_type, joined, expr_uses, pattern_uses, slice_uses}
use Rattle.asl_rules.specs.declarations.UsedNames.{type_uses, maybe_expr_uses, maybe_type_uses, formal_uses, def_uses, supertype_uses}

-- ---- statements

abbrev pub suffix_uses : Suffix → Uses
suffix_uses (FieldOf i) = []
suffix_uses (FieldsOf is) = []
suffix_uses (SlicesOf ss) = joined (map slice_uses ss)
suffix_uses (ElementOf e) = expr_uses e

abbrev pub suffixes_uses : List PlacedSuffix → Uses
suffixes_uses [] = []
suffixes_uses (x ∷ xs) = suffix_uses x.suffix ++ suffixes_uses xs

abbrev pub in_target : tg.Target-F Uses → Uses
in_target (tg.Discarded span) = []
in_target (tg.Place span i xs) = of_value i.span i.text ∷ suffixes_uses xs
in_target (tg.Targets span ts) = joined ts

abbrev pub target_uses : Target → Uses
target_uses = fold-Target Uses in_target

abbrev pub item_uses : PrintItem → Uses
item_uses (Verbatim span text) = []
item_uses (Shown e) = expr_uses e

abbrev pub in_stmt : st.Stmt-F Uses Uses Uses Uses Uses → Uses
in_stmt (st.Pass span) = []
in_stmt (st.Unreachable span) = []
in_stmt (st.Assert span e) = expr_uses e
in_stmt (st.Local span kind b ty e) = maybe_type_uses ty ++ expr_uses e
in_stmt (st.LocalVars span iss ty) = type_uses ty
in_stmt (st.Assign span target e) = target_uses target ++ expr_uses e
in_stmt (st.Invoke span i ps es) = of_subprogram span i.text ∷ (joined (map expr_uses ps) ++ joined (map expr_uses es))
in_stmt (st.If span c first others last) = expr_uses c ++ (joined first ++ (joined others ++ joined last))
in_stmt (st.Case span e ass o) = expr_uses e ++ (joined ass ++ o)
in_stmt (st.For span i a d b l ss) = expr_uses a ++ (expr_uses b ++ (maybe_expr_uses l ++ joined ss))
in_stmt (st.While span c l ss) = expr_uses c ++ (maybe_expr_uses l ++ joined ss)
in_stmt (st.Repeat span ss c l) = joined ss ++ (expr_uses c ++ maybe_expr_uses l)
in_stmt (st.Return span e) = maybe_expr_uses e
in_stmt (st.Throw span e) = maybe_expr_uses e
in_stmt (st.Try span ss cs o) = joined ss ++ (joined cs ++ o)
in_stmt (st.Print span kind iss) = joined (map item_uses iss)

abbrev pub in_alternative : st.Alternative-F Uses Uses Uses Uses Uses → Uses
in_alternative (st.When ps e ss) = joined (map pattern_uses ps) ++ (maybe_expr_uses e ++ joined ss)

abbrev pub in_catcher : st.Catcher-F Uses Uses Uses Uses Uses → Uses
in_catcher (st.Catch i t ss) = of_type t.text ∷ joined ss

abbrev pub in_branch : st.ElseIf-F Uses Uses Uses Uses Uses → Uses
in_branch (st.ElseIf c ss) = expr_uses c ++ joined ss

abbrev pub in_otherwise : st.Otherwise-F Uses Uses Uses Uses Uses → Uses
in_otherwise st.NoOtherwise = []
in_otherwise (st.Otherwise ss) = joined ss

abbrev pub stmt_uses : Stmt → Uses
stmt_uses = fold-Stmt Uses Uses Uses Uses Uses in_alternative in_catcher in_branch in_otherwise in_stmt

abbrev pub alternative_uses : Alternative → Uses
alternative_uses = fold-Alternative Uses Uses Uses Uses Uses in_alternative in_catcher in_branch in_otherwise in_stmt

abbrev pub catcher_uses : Catcher → Uses
catcher_uses = fold-Catcher Uses Uses Uses Uses Uses in_alternative in_catcher in_branch in_otherwise in_stmt

abbrev pub branch_uses : ElseIf → Uses
branch_uses = fold-ElseIf Uses Uses Uses Uses Uses in_alternative in_catcher in_branch in_otherwise in_stmt

abbrev pub otherwise_uses : Otherwise → Uses
otherwise_uses = fold-Otherwise Uses Uses Uses Uses Uses in_alternative in_catcher in_branch in_otherwise in_stmt

-- ---- subprograms

abbrev pub param_uses : List Param → Uses
param_uses [] = []
param_uses (p ∷ ps) = maybe_type_uses p.ty ++ param_uses ps

-- those of a signature, the limit included
abbrev pub head_uses : Func → Uses
head_uses f = param_uses f.params ++ (formal_uses f.formals ++ (maybe_type_uses f.result ++ maybe_expr_uses f.limit))

abbrev pub body_uses : Func → Uses
body_uses f = joined (map stmt_uses f.body)

-- those of any declaration, a subprogram with its body too
abbrev pub all_uses : Decl → Uses
all_uses (dc.Type d) = def_uses d.def ++ supertype_uses d.supertype
all_uses (dc.Storage d) = maybe_type_uses d.ty ++ maybe_expr_uses d.init
all_uses (dc.Func f) = head_uses f ++ body_uses f
