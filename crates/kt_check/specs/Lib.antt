pub mod Violations
pub mod Verdicts
pub mod Phases
