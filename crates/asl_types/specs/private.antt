-- What restates something for proofs, nearer to how the code goes about it: a lemma ties each to what it restates.
pub mod Alike
pub mod Answers
pub mod Codes
pub mod EntryCodes
pub mod FieldPlaces
pub mod Heights
pub mod HeightsFall
pub mod Limited
pub mod MemberView
pub mod NamePlaces
pub mod Parts
pub mod Related
pub mod Seeing
pub mod Standings
pub mod Totals
