-- A report is put together from a run of the entry that isn't stuck.
pub mod Asked
pub mod RunsOfWords
pub mod Reports
