-- Each form of expression with its typed tree: both do the same and keep what soundness claims. `AllExprs` has the table of all forms.
pub mod OperatorForms
pub mod Places
pub mod MemberForms
