pub mod Examples
pub mod Buffers
pub mod Digits
pub mod Loops
pub mod Arcs
pub mod Lines
pub mod FirstByte
pub mod Given
