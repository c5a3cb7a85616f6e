-- Typing certificates: what the certificate of programs is, and what is found of bytes that are given as one.
pub mod Texts
pub mod Lines
pub mod Format
pub mod Certificates
pub mod Verdicts
pub mod Mistakes
pub mod Spellings
pub mod TreeLines
pub mod Walks
pub mod Compared
