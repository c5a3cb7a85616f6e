pub mod View
pub mod Acts
pub mod Bodies
pub mod Funcs
pub mod Sealed
pub mod private
