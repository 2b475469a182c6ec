pub mod Commas
pub mod Cuts
pub mod Digits
pub mod Signs
pub mod Tuples
