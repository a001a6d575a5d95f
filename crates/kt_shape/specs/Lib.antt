pub mod Operations
pub mod ShapeRules
