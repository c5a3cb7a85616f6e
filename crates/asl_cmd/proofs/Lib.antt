pub mod ReadingLemmas
pub mod Reports
pub mod Roomy
