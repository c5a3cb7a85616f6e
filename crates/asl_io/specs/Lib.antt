pub mod Faults
pub mod Shelf
pub mod Told
pub mod private
