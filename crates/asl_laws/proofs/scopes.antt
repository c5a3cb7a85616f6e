-- What is known of the names of a scope: well formed, over their own atoms, and with a value in each state that agrees.
pub mod Moved
pub mod Agreeing
pub mod GrownTexts
pub mod HeldRules
pub mod WellTyped
pub mod OverScope
pub mod ScopesOver
pub mod BodiesOver
pub mod MoreNames
pub mod DeclWell
pub mod NamesOutside
pub mod ScopesKept
pub mod Globals
pub mod FormedScopes
pub mod ScopeRules
