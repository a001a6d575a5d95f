pub mod Alike
pub mod Sections
pub mod Table
pub mod Precedence
pub mod Written
pub mod Named
pub mod Tested
