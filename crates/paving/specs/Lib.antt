pub mod Laws
pub mod Names
pub mod Numbers
pub mod Sheet
pub mod Steps
pub mod Turns
