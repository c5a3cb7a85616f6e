-- One layer of a tree, as `out-Expr` and `out-Stmt` open it.
use Rattle.asl_syn.specs.declared.tree.Bitfield.{Bitfield}
use Rattle.asl_syn.specs.declared.tree.ConstraintPart.{ConstraintPart}
use Rattle.asl_syn.specs.declared.tree.Expr.{Expr}
use Rattle.asl_syn.specs.declared.tree.Bitfield.TheOpen as ex
use Rattle.asl_syn.specs.declared.tree.FieldValue.{FieldValue}
use Rattle.asl_syn.specs.declared.tree.Pattern.{Pattern}
use Rattle.asl_syn.specs.declared.tree.Slice.{Slice}
use Rattle.asl_syn.specs.declared.tree.TypeExpr.{TypeExpr}
use Rattle.asl_syn.specs.declared.tree.Alternative.{Alternative}
use Rattle.asl_syn.specs.declared.tree.Catcher.{Catcher}
use Rattle.asl_syn.specs.declared.tree.ElseIf.{ElseIf}
use Rattle.asl_syn.specs.declared.tree.Otherwise.{Otherwise}
use Rattle.asl_syn.specs.declared.tree.Stmt.{Stmt}
use Rattle.asl_syn.specs.declared.tree.Alternative.TheOpen as st

-- one layer of an expression, of a type and of a statement
abbrev pub ExprLayer : Type 0
ExprLayer = ex.Expr-F Bitfield ConstraintPart Expr FieldValue Pattern Slice TypeExpr

abbrev pub TypeLayer : Type 0
TypeLayer = ex.TypeExpr-F Bitfield ConstraintPart Expr FieldValue Pattern Slice TypeExpr

abbrev pub StmtLayer : Type 0
StmtLayer = st.Stmt-F Alternative Catcher ElseIf Otherwise Stmt
