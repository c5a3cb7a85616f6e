-- Values, their parts, and what operators, patterns and the library make of them.
pub mod Values
pub mod Structures
pub mod Operators
pub mod Strings
pub mod Vectors
pub mod Members
pub mod Matching
pub mod Library
