pub mod WrittenViews
pub mod private
