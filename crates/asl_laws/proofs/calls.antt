-- Calls of the program's own subprograms: the one that is chosen, its parameters, its frame and its body.
pub mod OwnForms
pub mod OwnGiven
pub mod OwnOmitted
pub mod OwnWidths
pub mod OwnBodies
pub mod OwnArguments
pub mod OwnChosen
pub mod OwnKinds
pub mod OwnParams
pub mod OwnFrames
pub mod OwnCalls
pub mod OwnStanding
pub mod OwnFound
pub mod OwnBraces
