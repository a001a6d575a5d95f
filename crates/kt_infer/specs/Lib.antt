pub mod Left
pub mod Noting
pub mod Opening
pub mod Families
pub mod Demands
