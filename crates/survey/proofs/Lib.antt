pub mod Counting
pub mod Drafting
pub mod Layering
pub mod Moving
pub mod Printing
pub mod Reordering
