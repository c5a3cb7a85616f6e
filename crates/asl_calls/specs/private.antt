-- What restates something for proofs: what a test has to know of a program.
pub mod Callable
