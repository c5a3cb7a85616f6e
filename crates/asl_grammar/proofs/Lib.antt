pub mod lexemes
pub mod grammar
pub mod OneProgram
