-- The fewest gangs of a record: what a reader must believe, and Places for inner contracts.
pub mod Antichains
pub mod Gangs
pub mod Outcome
pub mod Places
