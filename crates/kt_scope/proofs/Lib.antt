pub mod EventFolds
pub mod Puts
pub mod Steps
pub mod EventSteps
pub mod Ranges
pub mod Whole
