pub mod Bounds
pub mod Packing
pub mod Telling
pub mod Theorems
