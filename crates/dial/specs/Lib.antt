pub mod Arcs
pub mod Lawful
pub mod Made
pub mod Offsets
pub mod Slices
