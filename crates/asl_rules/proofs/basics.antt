-- What all proofs of the laws share: texts in pieces, tests of names, one layer of a tree, what an answer says of the steps that led to it.
pub mod Pieces
pub mod Inversions
pub mod Answering
pub mod Deciding
pub mod Tests
pub mod Opening
