-- What restates something for proofs, nearer to how the code goes about it: a lemma ties each to what it restates.
pub mod Apart
pub mod Chains
pub mod ContextView
pub mod SignatureCodes
