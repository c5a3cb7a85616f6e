-- What is found at an expression: its type, its effect and its typed tree.
pub mod Typing
pub mod Operations
pub mod Slicing
pub mod Patterns
pub mod Calls
pub mod Exprs
