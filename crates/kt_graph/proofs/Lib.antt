pub mod Growing
pub mod Walks
pub mod Counts
pub mod Declarations
pub mod KindGroups
