pub mod Statuses
pub mod Transfers
pub mod Marks
pub mod DeadParts
