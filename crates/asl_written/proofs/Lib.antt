pub mod ConstraintLemmas
pub mod FieldLemmas
pub mod NameLemmas
pub mod OneTypeLemmas
pub mod RangeLemmas
pub mod TypeLemmas
pub mod WrittenLemmas
