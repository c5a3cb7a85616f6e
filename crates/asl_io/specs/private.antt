-- What restates something for proofs, nearer to how the code goes about it: a lemma ties each to what it restates.
pub mod Filled
pub mod MemFiles
pub mod MemSink
