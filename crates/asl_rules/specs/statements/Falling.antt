-- Whether the end of a statement can be reached.
use Rattle.std.specs.Prelude.{Bool, true, false, ◌&&◌, ◌||◌, List, [], ◌∷◌}
use Rattle.asl_syn.specs.declared.tree.Stmt.{Stmt}
use Rattle.asl_syn.specs.declared.tree.Alternative.TheOpen as st
use Rattle.asl_syn.specs.declared.tree.Alternative.TheFolds.{fold-Stmt}

-- Not that of `return`, `throw` and `unreachable`; that of a list where each of its statements' can; and that of a statement with branches where one of them
-- can be fallen through
abbrev pub all_fall : List Bool → Bool
all_fall [] = true
all_fall (b ∷ bs) = b && all_fall bs

abbrev pub any_falls : List Bool → Bool
any_falls [] = false
any_falls (b ∷ bs) = b || any_falls bs

abbrev pub falls_layer : st.Stmt-F Bool Bool Bool Bool Bool → Bool
falls_layer (st.Pass span) = true
falls_layer (st.Unreachable span) = false
falls_layer (st.Assert span e) = true
falls_layer (st.Local span kind b ty e) = true
falls_layer (st.LocalVars span iss ty) = true
falls_layer (st.Assign span target e) = true
falls_layer (st.Invoke span i ps es) = true
falls_layer (st.If span c first others last) = all_fall first || (any_falls others || all_fall last)
falls_layer (st.Case span e alternatives otherwise) = any_falls alternatives || otherwise
falls_layer (st.For span i a d b limit ss) = true
falls_layer (st.While span c limit ss) = true
falls_layer (st.Repeat span ss c limit) = true
falls_layer (st.Return span e) = false
falls_layer (st.Throw span e) = false
falls_layer (st.Try span body catchers otherwise) = all_fall body || (any_falls catchers || otherwise)
falls_layer (st.Print span kind iss) = true

abbrev pub alternative_falls : st.Alternative-F Bool Bool Bool Bool Bool → Bool
alternative_falls (st.When ps e ss) = all_fall ss

abbrev pub catcher_falls : st.Catcher-F Bool Bool Bool Bool Bool → Bool
catcher_falls (st.Catch i t ss) = all_fall ss

abbrev pub branch_falls : st.ElseIf-F Bool Bool Bool Bool Bool → Bool
branch_falls (st.ElseIf c ss) = all_fall ss

abbrev pub otherwise_falls : st.Otherwise-F Bool Bool Bool Bool Bool → Bool
otherwise_falls st.NoOtherwise = false
otherwise_falls (st.Otherwise ss) = all_fall ss

abbrev pub falls : Stmt → Bool
falls = fold-Stmt Bool Bool Bool Bool Bool alternative_falls catcher_falls branch_falls otherwise_falls falls_layer

abbrev pub falls_through : List Stmt → Bool
falls_through [] = true
falls_through (s ∷ ss) = falls s && falls_through ss
