pub mod Layers
pub mod Meaning
pub mod Means
pub mod Rearranged
pub mod Theorems
