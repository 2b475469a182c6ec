pub mod Faults
pub mod Files
pub mod Lines
pub mod Requests
pub mod Sorts
