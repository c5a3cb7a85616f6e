-- Types, with what they are written by: effects, widths and constraints as they are written, and types as a run sees them.
pub mod Effects
pub mod Types
pub mod Closed
pub mod Views
pub mod Arithmetic
pub mod Numbers
pub mod Alone
pub mod Widths
pub mod Shapes
pub mod Shaped
pub mod Present
pub mod Written
pub mod Writing
