pub mod Lists
pub mod Shape
