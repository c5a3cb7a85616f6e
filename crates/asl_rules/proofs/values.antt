-- Values and the types that they belong to.
pub mod SameKind
pub mod KindsByNames
pub mod Shapes
pub mod KindOf
pub mod Viewing
pub mod Satisfying
pub mod Rounded
pub mod Constrained
pub mod Keeping
pub mod Bitless
pub mod Bare
pub mod Constructs
pub mod FirstValues
