-- A wider limit decides nothing but whether a run ends with the fault D14.
pub mod Steps
pub mod Pures
pub mod Plans
pub mod Known
pub mod Runs
pub mod Stays
pub mod Rows
pub mod Trees
pub mod Stmts
pub mod Verdict
pub mod Reading
pub mod Reports
