pub mod Bridge
mod ComponentLemmas
pub mod CycleLemmas
mod Declaring
pub mod FirstLemmas
mod KnownLemmas
pub mod Marks
mod Rest
mod Walks
pub mod Ways
