pub mod StatementSteps
pub mod Steps
