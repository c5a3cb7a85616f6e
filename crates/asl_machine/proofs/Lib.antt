-- Proofs of machines: Places (one place and one variable, exchanged), Exchange (all of them), Beginning (before the first call), After (between calls), Sets
-- (where equality is a proposition), Ahead (where a run is given up, it has no fewer steps left than the whole run leaves), SameEnds and SameRuns (a run of
-- typed trees says how the program's own ends), Behind (a call over no text says what the call over the sink's text does), MemoryCalls (a call over a
-- memory), Entries (the entry can be called), OwnRuns (a call says what the run that begins with no text does), Answered (what is known of a machine that was
-- ready).
pub mod Places
pub mod Exchange
pub mod Sets
pub mod Beginning
pub mod After
pub mod Ahead
pub mod SameEnds
pub mod SameRuns
pub mod Behind
pub mod MemoryCalls
pub mod Entries
pub mod OwnRuns
pub mod Answered
