-- Width polynomials: what they are worth, which atoms they have, and where two are the same.
pub mod PresentNumbers
pub mod WholeWidths
pub mod Substituting
pub mod SameByWorth
pub mod TypesOver
pub mod NumbersWorth
pub mod Rows
pub mod AtomAlone
pub mod PolynomialOf
pub mod Omitted
pub mod WidthValues
pub mod Obeying
pub mod Asking
pub mod OutsideWidths
