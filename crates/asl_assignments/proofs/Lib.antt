pub mod Assigning
pub mod Placing
