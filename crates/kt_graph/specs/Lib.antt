pub mod Building
pub mod Sizes
pub mod Straight
