-- What is found at a statement.
pub mod Acting
pub mod Falling
pub mod Locals
pub mod Targets
pub mod Branches
pub mod Stmts
