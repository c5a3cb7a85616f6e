-- Law 1: runs by the shape of plans alone, their steps, budgets and texts, and what they leave as it is.
pub mod Budget
pub mod Given
pub mod Quiet
pub mod Calls
pub mod Shift
pub mod Visited
pub mod OneOutcome
pub mod Several
pub mod PlansKeep
pub mod GlobalsKept
pub mod WordRuns
