pub mod Puts
pub mod ShapeFolds
