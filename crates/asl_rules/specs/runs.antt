-- What a run does: plans, states, evaluation and execution, typed trees, and the moments at which it may be given up.
pub mod Limits
pub mod Told
pub mod Plans
pub mod Pures
pub mod States
pub mod Forms
pub mod StatementForms
pub mod ByNames
pub mod Trees
pub mod Visits
pub mod Evaluation
pub mod Machines
pub mod Words
pub mod Cuts
