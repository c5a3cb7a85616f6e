-- The names of a program that is well formed are those that its declarations alone describe.
pub mod FirstFilled
pub mod Forms
pub mod WrittenTypes
pub mod DeclaredTypes
pub mod DeclaredStorage
pub mod Environments
