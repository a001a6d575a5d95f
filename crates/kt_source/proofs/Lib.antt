pub mod OneReading
pub mod StageLaws
