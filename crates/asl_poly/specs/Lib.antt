pub mod WidthLimits
pub mod Terms
pub mod Limits
pub mod Operations
pub mod Denominators
pub mod Fractions
pub mod Substitute
pub mod Poly
