-- The record of a tree: what a reader must believe; Tokens is for inner contracts alone.
pub mod Bits
pub mod Layout
pub mod Decode
pub mod Tokens
