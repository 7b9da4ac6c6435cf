-- The longest run of work of a record: what a reader must believe, and Stack for inner contracts.
pub mod Chains
pub mod Longest
pub mod Outcome
pub mod Schedules
pub mod Stack
