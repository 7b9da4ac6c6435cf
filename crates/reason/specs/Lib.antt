-- The reason between two jobs of a record: what a reader must believe, and Rows for inner contracts.
pub mod Claims
pub mod Lowest
pub mod Outcome
pub mod Rows
