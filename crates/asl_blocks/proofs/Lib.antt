pub mod Chains
pub mod Gathering
pub mod Turns
pub mod SizeLemmas
pub mod Parted
pub mod Simples
pub mod ActForms
