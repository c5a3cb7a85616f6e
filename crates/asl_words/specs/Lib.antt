pub mod Steps
pub mod WordList
