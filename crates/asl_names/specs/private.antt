-- What restates something for proofs, nearer to how the code goes about it: a lemma ties each to what it restates.
pub mod Answers
pub mod Components
pub mod Cycles
pub mod Firsts
pub mod Graphs
pub mod Known
pub mod UseView
pub mod Ways
