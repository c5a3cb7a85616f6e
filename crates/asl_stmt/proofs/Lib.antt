pub mod Walked
pub mod ListTurns
pub mod Reported
