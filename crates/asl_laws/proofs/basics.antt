-- What all proofs of the laws share: texts in pieces, tests of names, one layer of a tree, what an answer says of the steps that led to it.
pub mod Having
pub mod Lists
