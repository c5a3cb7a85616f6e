-- Lemmas on lexemes and on the reading of a text.
pub mod Heads
pub mod Munch
pub mod Gapping
pub mod Tables
pub mod Values
pub mod OneLexeme
pub mod LongestLexeme
pub mod Reading
pub mod OneReading
pub mod OneReadingOfFiles
pub mod Placing
pub mod Fronts
pub mod Files
pub mod Faults
