-- Each form of statement with its typed tree. `AllStmts` has the table of all forms.
pub mod StmtForms
pub mod ListForms
pub mod BranchForms
pub mod ForForms
pub mod DeclareForms
pub mod TupleForms
pub mod VarForms
pub mod ThrowForms
pub mod CaseForms
pub mod AllStmts
pub mod CatchForms
pub mod TryForms
pub mod AssignStores
pub mod AssignSteps
pub mod AssignForms
pub mod AssignActs
