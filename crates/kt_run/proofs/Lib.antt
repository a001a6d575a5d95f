pub mod FrameLemmas
pub mod Chain
pub mod Steps
pub mod FormSteps
pub mod StringSteps
pub mod BareRuns
pub mod Wholes
