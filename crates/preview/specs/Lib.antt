-- The preview of one more order: what a reader must believe.
pub mod Outcome
