pub mod Framed
pub mod View
pub mod Meets
pub mod private
