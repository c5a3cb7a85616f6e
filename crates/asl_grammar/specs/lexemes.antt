-- Lexemes: what they are, how a text is read as their list, and what its one fault is otherwise.
pub mod Bytes
pub mod Words
pub mod Marks
pub mod Gaps
pub mod Lexemes
pub mod Refusals
pub mod Tokens
pub mod Files
pub mod Texts
