pub mod Basics
pub mod Readings
pub mod Reading
pub mod Faults
pub mod Levels
pub mod Deep
pub mod Symbols
pub mod Facts
pub mod Checked
pub mod Opening
pub mod Stops
pub mod Answered
pub mod Placed
pub mod OneFault
pub mod Ends
mod Samples
pub mod Shorter
