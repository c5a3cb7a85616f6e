pub mod Storage
pub mod Stages
pub mod Took
pub mod Work
pub mod private
