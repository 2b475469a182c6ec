pub mod Counts
pub mod Cuts
pub mod Piles
pub mod Rolls
pub mod Stores
pub mod Shown
pub mod Standing
