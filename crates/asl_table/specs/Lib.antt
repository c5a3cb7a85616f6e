pub mod Widths
pub mod Pairs
pub mod View
pub mod private
