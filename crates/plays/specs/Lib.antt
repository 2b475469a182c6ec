pub mod Numbered
pub mod Plays
