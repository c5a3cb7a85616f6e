-- Law 3: no run is stuck, states stay sound, values belong to their types, and typed trees do the same.
pub mod SoundnessVisits
pub mod SoundnessStates
pub mod GivenTypes
pub mod SoundnessFacts
pub mod SoundnessEnds
pub mod SoundnessNodes
pub mod SoundnessHeads
pub mod SoundnessCalls
pub mod Soundness
pub mod SoundnessBefore
pub mod SoundnessEntry
pub mod AgreeingTypes
