-- What restates something for proofs, nearer to how the code goes about it: a lemma ties each to what it restates.
pub mod Free
pub mod HeadTypes
pub mod HeadViews
pub mod Limits
pub mod Signatures
pub mod StorageOrder
