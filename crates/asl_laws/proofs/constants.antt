-- Expressions before any run: a run gives what the evaluation of constants gives.
pub mod KnownTwins
pub mod KnownRuns
pub mod KnownEnough
pub mod KnownStart
pub mod KnownTypes
