pub mod Conditionals
pub mod ConstructRows
pub mod GivenLemmas
pub mod GivenPlaces
pub mod GivenTypes
pub mod MemberRows
