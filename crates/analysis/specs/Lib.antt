-- What each public call hands back: what a reader must believe.
pub mod Bounds
pub mod Answer
pub mod Outcome
pub mod Sentences
pub mod Result
pub mod Claims
