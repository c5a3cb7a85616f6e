-- Expressions before any run: a run gives what the evaluation of constants gives.
pub mod KnownParts
