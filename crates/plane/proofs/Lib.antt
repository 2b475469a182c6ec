pub mod Numbered
pub mod Promised
