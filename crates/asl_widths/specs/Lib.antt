pub mod WidthViews
pub mod private
