-- Masks: the least word with a property, and that all masks of a `case` have one width in a program that is accepted.
pub mod LeastWords
pub mod ReadTrees
pub mod PatternWidths
pub mod CaseWidths
pub mod BodyWidths
pub mod Tables
