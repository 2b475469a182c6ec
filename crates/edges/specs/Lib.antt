pub mod Rails
pub mod Lawful
