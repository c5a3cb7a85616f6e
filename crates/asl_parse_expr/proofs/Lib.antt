pub mod Loops
pub mod Opened
pub mod Rooms
pub mod Steps
pub mod Tails
