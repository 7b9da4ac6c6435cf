-- The record's reader: what its functions owe.
pub mod Fields
pub mod Nodes
pub mod Parts
pub mod Whole
pub mod Answer
