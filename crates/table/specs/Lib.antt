pub mod Paving
