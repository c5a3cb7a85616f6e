-- What only private functions and proofs cite.
pub mod Names
pub mod Parts
pub mod Holes
pub mod Standing
