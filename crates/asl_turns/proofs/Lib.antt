mod FirstReady
pub mod Marks
mod Placing
mod Settling
