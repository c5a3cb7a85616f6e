pub mod Place
pub mod Codes
pub mod Command
pub mod Layers
