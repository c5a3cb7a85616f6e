pub mod Bytes
pub mod Quotes
