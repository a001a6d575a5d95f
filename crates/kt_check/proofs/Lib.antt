pub mod PlaceOrder
pub mod FilePhases
pub mod BodyFindings
pub mod OneVerdict
pub mod MainFound
pub mod LeftTrees
