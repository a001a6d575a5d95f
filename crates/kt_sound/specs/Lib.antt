pub mod FlowOfBody
pub mod BodySoundness
pub mod FileSoundness
