pub mod Engine
pub mod Parsed
pub mod Reach
