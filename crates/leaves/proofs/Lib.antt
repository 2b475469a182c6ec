pub mod Computed
pub mod Equal
pub mod Found
pub mod Offsets
