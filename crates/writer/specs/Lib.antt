pub mod Compared
pub mod Packing
pub mod Parts
pub mod Shapes
pub mod Stack
pub mod Turns
pub mod Written
