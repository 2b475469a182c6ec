pub mod Drafts
pub mod Orders
pub mod Panels
pub mod Joining
pub mod Readings
