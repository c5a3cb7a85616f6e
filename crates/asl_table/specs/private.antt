pub mod Listed
pub mod Found
pub mod Narrow
pub mod Walk
