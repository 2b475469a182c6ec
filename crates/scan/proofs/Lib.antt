pub mod Backward
pub mod Counting
pub mod Depths
pub mod Logs
pub mod Runs
