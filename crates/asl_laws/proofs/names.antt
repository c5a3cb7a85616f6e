-- A judgement depends on the names that it uses: in two scopes in which these stand for the same it is the same, trees, slots, atoms and
-- faults included. So what is judged at a turn is judged so at every later one, and by the names of the program.
pub mod Induction
pub mod StmtInduction
pub mod ByUses
pub mod ByStmtUses
pub mod LayerUses
pub mod SameExprs
pub mod SamePlaces
pub mod SameTargets
pub mod Over
pub mod SameStmts
pub mod SameWidths
pub mod SameConstants
pub mod SameValues
pub mod SameDecls
pub mod Twins
pub mod JudgedLater
pub mod Stuck
pub mod Turned
pub mod Settled
