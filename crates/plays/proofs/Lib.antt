pub mod Gaming
pub mod Numbering
