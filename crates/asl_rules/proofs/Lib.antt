pub mod basics
pub mod constants
pub mod verdict
pub mod widths
pub mod values
pub mod scopes
pub mod expressions
