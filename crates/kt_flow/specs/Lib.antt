pub mod Notes
pub mod Against
pub mod Statuses
pub mod Sizes
pub mod Ends
