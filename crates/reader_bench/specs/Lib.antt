-- What the entry hands out.
pub mod Handed
