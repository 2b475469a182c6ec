pub mod Grounds
pub mod Lists
pub mod Orders
pub mod Texts
