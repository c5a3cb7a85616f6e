-- How many statements stand in a statement, itself with them, and in its parts.
use Rattle.std.specs.Prelude.{ℕ, suc, ◌+◌, List, [], ◌∷◌, map}
use Rattle.asl_syn.specs.declared.tree.Alternative.{Alternative}
use Rattle.asl_syn.specs.declared.tree.Catcher.{Catcher}
use Rattle.asl_syn.specs.declared.tree.ElseIf.{ElseIf}
use Rattle.asl_syn.specs.declared.tree.Otherwise.{Otherwise}
use Rattle.asl_syn.specs.declared.tree.Stmt.{Stmt}
use Rattle.asl_syn.specs.declared.tree.Alternative.TheOpen as st
use Rattle.asl_syn.specs.declared.tree.Alternative.TheFolds.{fold-Stmt, fold-ElseIf, fold-Alternative, fold-Catcher, fold-Otherwise}

abbrev pub total : List ℕ → ℕ
total [] = 0
total (n ∷ ns) = n + total ns

abbrev pub alternative_layer : st.Alternative-F ℕ ℕ ℕ ℕ ℕ → ℕ
alternative_layer (st.When ps e ss) = total ss

abbrev pub catcher_layer : st.Catcher-F ℕ ℕ ℕ ℕ ℕ → ℕ
catcher_layer (st.Catch i ty ss) = total ss

abbrev pub branch_layer : st.ElseIf-F ℕ ℕ ℕ ℕ ℕ → ℕ
branch_layer (st.ElseIf c ss) = total ss

abbrev pub otherwise_layer : st.Otherwise-F ℕ ℕ ℕ ℕ ℕ → ℕ
otherwise_layer st.NoOtherwise = 0
otherwise_layer (st.Otherwise ss) = total ss

abbrev pub stmt_layer : st.Stmt-F ℕ ℕ ℕ ℕ ℕ → ℕ
stmt_layer (st.If span c first others last) = suc (total first + (total others + total last))
stmt_layer (st.Case span e ass last) = suc (total ass + last)
stmt_layer (st.For span i a d b limit ss) = suc (total ss)
stmt_layer (st.While span c limit ss) = suc (total ss)
stmt_layer (st.Repeat span ss c limit) = suc (total ss)
stmt_layer (st.Try span ss cs last) = suc (total ss + (total cs + last))
stmt_layer layer = 1

abbrev pub stmt_size : Stmt → ℕ
stmt_size = fold-Stmt ℕ ℕ ℕ ℕ ℕ alternative_layer catcher_layer branch_layer otherwise_layer stmt_layer

abbrev pub branch_size : ElseIf → ℕ
branch_size = fold-ElseIf ℕ ℕ ℕ ℕ ℕ alternative_layer catcher_layer branch_layer otherwise_layer stmt_layer

abbrev pub alternative_size : Alternative → ℕ
alternative_size = fold-Alternative ℕ ℕ ℕ ℕ ℕ alternative_layer catcher_layer branch_layer otherwise_layer stmt_layer

abbrev pub catcher_size : Catcher → ℕ
catcher_size = fold-Catcher ℕ ℕ ℕ ℕ ℕ alternative_layer catcher_layer branch_layer otherwise_layer stmt_layer

abbrev pub otherwise_size : Otherwise → ℕ
otherwise_size = fold-Otherwise ℕ ℕ ℕ ℕ ℕ alternative_layer catcher_layer branch_layer otherwise_layer stmt_layer

-- in lists
abbrev pub stmts_size : List Stmt → ℕ
stmts_size ss = total (map stmt_size ss)

abbrev pub branches_size : List ElseIf → ℕ
branches_size bs = total (map branch_size bs)

abbrev pub alternatives_size : List Alternative → ℕ
alternatives_size xs = total (map alternative_size xs)

abbrev pub catchers_size : List Catcher → ℕ
catchers_size cs = total (map catcher_size cs)
