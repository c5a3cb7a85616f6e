pub mod Statuses
pub mod private
