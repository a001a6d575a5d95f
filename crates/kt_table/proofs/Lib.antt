pub mod Rising
pub mod Search
pub mod Texts
