pub mod FaultPlaces
pub mod Filing
