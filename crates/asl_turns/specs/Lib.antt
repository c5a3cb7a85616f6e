pub mod Graphs
pub mod Turns
pub mod private
