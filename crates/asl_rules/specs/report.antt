-- What a command writes.
pub mod Texts
pub mod WordList
pub mod Made
pub mod MaskTables
pub mod Report
