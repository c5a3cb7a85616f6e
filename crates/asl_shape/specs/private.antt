-- What restates something for proofs, nearer to how the code goes about it: a lemma ties each to what it restates.
pub mod First
pub mod Matched
pub mod Arguments
pub mod Bits
pub mod Filled
pub mod FilledView
pub mod Numbers
pub mod Having
pub mod Filling
pub mod FillingView
