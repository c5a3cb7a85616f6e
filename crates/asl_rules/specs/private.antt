-- What laws and proofs cite, and no contract of the program: nobody has to believe these for its sake.
pub mod WellFormed
pub mod Worth
pub mod Belonging
pub mod Agreement
pub mod HoldsBits
pub mod ByPlace
pub mod TypedMeaning
pub mod Erasure
pub mod Grown
pub mod Judgements
