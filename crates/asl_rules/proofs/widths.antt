-- Width polynomials: what they are worth, which atoms they have, and where two are the same.
pub mod WorthForms
pub mod WidthForms
pub mod Ratios
pub mod Known
pub mod WidthsHeld
pub mod WidthsWorth
pub mod WidthAtoms
pub mod Counting
pub mod ScopesCounted
pub mod Totals
