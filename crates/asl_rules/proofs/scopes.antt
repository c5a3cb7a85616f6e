-- What is known of the names of a scope: well formed, over their own atoms, and with a value in each state that agrees.
pub mod Lookups
pub mod EachOnce
pub mod Naming
pub mod Longer
pub mod Slots
pub mod KeptNames
