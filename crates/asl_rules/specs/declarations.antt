-- What declarations use and bring, scopes, and whole programs with their one fault.
pub mod UsedNames
pub mod Routines
pub mod Names
pub mod Scopes
pub mod Layouts
pub mod Uses
pub mod Barred
pub mod Constants
pub mod Declarations
pub mod Turns
pub mod WrittenOut
pub mod Keys
pub mod Replacing
pub mod Programs
