pub mod Count
pub mod Depth
pub mod Live
pub mod Powers
