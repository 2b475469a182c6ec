pub mod Gathers
pub mod Smallest
pub mod Strips
