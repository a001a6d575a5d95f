pub mod Slots
pub mod Scene
pub mod Operators
pub mod Running
pub mod Nests
