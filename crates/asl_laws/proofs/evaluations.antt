-- What the rules evaluate before any run is never stuck; which codes faults have, and where one of the code T04 comes from.
pub mod NoCalls
pub mod NeverStuck
pub mod FaultCauses
pub mod FaultCodes
