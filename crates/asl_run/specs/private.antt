-- What restates something for proofs, nearer to how the code goes about it: a lemma ties each to what it restates.
pub mod Operations
pub mod Finishes
pub mod Calling
pub mod Storing
pub mod Pieces
pub mod Below
pub mod AtOnce
pub mod Looping
pub mod Asking
