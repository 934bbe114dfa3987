pub mod Shapes
pub mod Lifted
