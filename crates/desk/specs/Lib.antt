-- What the desk's calls hand back: what a reader must believe.
pub mod Packed
pub mod Told
