pub mod Entered
pub mod Globals
pub mod Heads
pub mod private
