pub mod Keywords
pub mod Operators
pub mod Faults
pub mod Opened
pub mod Reading
pub mod Scanning
pub mod Steps
pub mod Units
