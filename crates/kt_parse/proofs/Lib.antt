pub mod KeptNames
pub mod EngineLaws
pub mod Parsing
pub mod Reach
pub mod Weights
