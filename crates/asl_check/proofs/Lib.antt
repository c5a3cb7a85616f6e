pub mod BodyTurns
pub mod GlobalTurns
pub mod ReadVerdicts
