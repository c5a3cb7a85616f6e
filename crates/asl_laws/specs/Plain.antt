-- A program without accessors, and without bodies that replace others, as it is read.
use Rattle.std.specs.Prelude.{List, map}
use Rattle.asl_syn.specs.declared.tree.Stmt.{Stmt}
use Rattle.asl_syn.specs.declared.tree.Stmt.TheVariants as stm
use Rattle.asl_syn.specs.declared.tree.ElseIf.{ElseIf}
use Rattle.asl_syn.specs.declared.tree.Alternative.{Alternative}
use Rattle.asl_syn.specs.declared.tree.Otherwise.{Otherwise}
use Rattle.asl_syn.specs.declared.tree.Catcher.{Catcher}
use Rattle.asl_syn.specs.declared.tree.Func.{Func}
use Rattle.asl_syn.specs.declared.tree.Decl.{Decl}
use Rattle.asl_syn.specs.declared.tree.Decl.TheVariants as dc
use Rattle.asl_syn.specs.declared.tree.Alternative.TheOpen as st
use Rattle.asl_syn.specs.declared.tree.Alternative.TheFolds.{fold-Alternative, fold-Catcher, fold-ElseIf, fold-Otherwise, fold-Stmt}
use Rattle.asl_syn.specs.declared.read.BodyWord.TheVariants.{NoWord}
use Rattle.asl_syn.specs.declared.read.ReadStmt.{ReadStmt}
use Rattle.asl_syn.specs.declared.read.ReadStmt.TheVariants as rs
use Rattle.asl_syn.specs.declared.read.ReadElseIf.{ReadElseIf}
use Rattle.asl_syn.specs.declared.read.ReadElseIf.TheVariants as re
use Rattle.asl_syn.specs.declared.read.ReadAlternative.{ReadAlternative}
use Rattle.asl_syn.specs.declared.read.ReadAlternative.TheVariants as ra
use Rattle.asl_syn.specs.declared.read.ReadOtherwise.{ReadOtherwise}
use Rattle.asl_syn.specs.declared.read.ReadOtherwise.TheVariants as ro
use Rattle.asl_syn.specs.declared.read.ReadCatcher.{ReadCatcher}
use Rattle.asl_syn.specs.declared.read.ReadCatcher.TheVariants as rc
use Rattle.asl_syn.specs.declared.read.ReadFunc.{ReadFunc}
use Rattle.asl_syn.specs.declared.read.ReadDecl.{ReadDecl}
use Rattle.asl_syn.specs.declared.read.ReadDecl.TheVariants as rd

-- ---- statements

abbrev pub stmt_layer_read : st.Stmt-F ReadAlternative ReadCatcher ReadElseIf ReadOtherwise ReadStmt → ReadStmt
stmt_layer_read (st.Pass at) = rs.Simple (stm.Pass at)
stmt_layer_read (st.Unreachable at) = rs.Simple (stm.Unreachable at)
stmt_layer_read (st.Assert at e) = rs.Simple (stm.Assert at e)
stmt_layer_read (st.Print at kind iss) = rs.Simple (stm.Print at kind iss)
stmt_layer_read (st.Local at kind b ty e) = rs.Simple (stm.Local at kind b ty e)
stmt_layer_read (st.LocalVars at iss ty) = rs.Simple (stm.LocalVars at iss ty)
stmt_layer_read (st.Assign at target e) = rs.Simple (stm.Assign at target e)
stmt_layer_read (st.Invoke at i ps es) = rs.Simple (stm.Invoke at i ps es)
stmt_layer_read (st.If at c first others last) = rs.If at c first others last
stmt_layer_read (st.Case at e xs last) = rs.Case at e xs last
stmt_layer_read (st.For at i a d b most ss) = rs.For at i a d b most ss
stmt_layer_read (st.While at c most ss) = rs.While at c most ss
stmt_layer_read (st.Repeat at ss c most) = rs.Repeat at ss c most
stmt_layer_read (st.Return at e) = rs.Simple (stm.Return at e)
stmt_layer_read (st.Throw at e) = rs.Simple (stm.Throw at e)
stmt_layer_read (st.Try at ss cs last) = rs.Try at ss cs last

abbrev pub else_if_layer_read : st.ElseIf-F ReadAlternative ReadCatcher ReadElseIf ReadOtherwise ReadStmt → ReadElseIf
else_if_layer_read (st.ElseIf c ss) = re.ElseIf c ss

abbrev pub alternative_layer_read : st.Alternative-F ReadAlternative ReadCatcher ReadElseIf ReadOtherwise ReadStmt → ReadAlternative
alternative_layer_read (st.When ps e ss) = ra.When ps e ss

abbrev pub catcher_layer_read : st.Catcher-F ReadAlternative ReadCatcher ReadElseIf ReadOtherwise ReadStmt → ReadCatcher
catcher_layer_read (st.Catch i t ss) = rc.Catch i t ss

abbrev pub otherwise_layer_read : st.Otherwise-F ReadAlternative ReadCatcher ReadElseIf ReadOtherwise ReadStmt → ReadOtherwise
otherwise_layer_read st.NoOtherwise = ro.NoOtherwise
otherwise_layer_read (st.Otherwise ss) = ro.Otherwise ss

abbrev pub stmt_read : Stmt → ReadStmt
stmt_read =
    fold-Stmt ReadAlternative ReadCatcher ReadElseIf ReadOtherwise ReadStmt
    alternative_layer_read catcher_layer_read else_if_layer_read otherwise_layer_read stmt_layer_read

abbrev pub else_if_read : ElseIf → ReadElseIf
else_if_read =
    fold-ElseIf ReadAlternative ReadCatcher ReadElseIf ReadOtherwise ReadStmt
    alternative_layer_read catcher_layer_read else_if_layer_read otherwise_layer_read stmt_layer_read

abbrev pub alternative_read : Alternative → ReadAlternative
alternative_read =
    fold-Alternative ReadAlternative ReadCatcher ReadElseIf ReadOtherwise ReadStmt
    alternative_layer_read catcher_layer_read else_if_layer_read otherwise_layer_read stmt_layer_read

abbrev pub catcher_read : Catcher → ReadCatcher
catcher_read =
    fold-Catcher ReadAlternative ReadCatcher ReadElseIf ReadOtherwise ReadStmt
    alternative_layer_read catcher_layer_read else_if_layer_read otherwise_layer_read stmt_layer_read

abbrev pub otherwise_read : Otherwise → ReadOtherwise
otherwise_read =
    fold-Otherwise ReadAlternative ReadCatcher ReadElseIf ReadOtherwise ReadStmt
    alternative_layer_read catcher_layer_read else_if_layer_read otherwise_layer_read stmt_layer_read

-- ---- declarations

abbrev pub func_read : Func → ReadFunc
func_read f = record {
  span = f.span;
  word = NoWord;
  qualifier = f.qualifier;
  name = f.name;
  params = f.params;
  formals = f.formals;
  result = f.result;
  limit = f.limit;
  body = map stmt_read f.body;
}

abbrev pub decl_read : Decl → ReadDecl
decl_read (dc.Type d) = rd.Type d
decl_read (dc.Storage d) = rd.Storage d
decl_read (dc.Func f) = rd.Func (func_read f)

-- the same declarations, as they are read
abbrev pub as_read : List Decl → List ReadDecl
as_read ds = map decl_read ds
