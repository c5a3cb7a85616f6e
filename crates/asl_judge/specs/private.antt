-- What restates something for proofs, nearer to how the code goes about it: a lemma ties each to what it restates.
pub mod Brought
pub mod Definitions
pub mod Outcomes
pub mod Settling
pub mod Waiting
