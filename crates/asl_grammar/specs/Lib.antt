pub mod lexemes
pub mod grammar
pub mod Reading
pub mod private
