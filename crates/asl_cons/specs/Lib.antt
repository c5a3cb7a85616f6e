pub mod Constraint
pub mod Arithmetic
pub mod Operation
pub mod Operator
pub mod Ranges
