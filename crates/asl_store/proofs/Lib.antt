pub mod Slots
pub mod Frames
