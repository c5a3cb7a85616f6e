pub mod Lists
pub mod Laws
pub mod Values
pub mod Windows
pub mod InUse
pub mod Putting
