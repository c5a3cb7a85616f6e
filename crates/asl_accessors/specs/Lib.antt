pub mod Judged
pub mod private
