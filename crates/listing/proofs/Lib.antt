pub mod Closings
pub mod Ends
pub mod Grounds
pub mod Pavings
pub mod Runs
pub mod Turns
