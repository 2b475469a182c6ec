pub mod Facts
pub mod Fixing
pub mod Joining
pub mod Laws
pub mod Pieces
pub mod Rearranging
pub mod Relaxing
pub mod Reordering
