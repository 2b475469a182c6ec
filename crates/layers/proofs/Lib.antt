pub mod Asking
pub mod Filling
pub mod Turning
pub mod Worth
