pub mod SourceRules
pub mod Stages
