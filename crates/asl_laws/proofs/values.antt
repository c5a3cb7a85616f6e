-- Values and the types that they belong to.
pub mod PresentTypes
pub mod OfType
pub mod Joining
pub mod Sliced
pub mod Signed
pub mod Routines
pub mod FirstFilled
pub mod FirstPresent
pub mod Widening
pub mod Replacing
