-- How many joins a closure takes: what a reader must believe; and Columns and Rows for inner contracts.
pub mod Joins
pub mod Columns
pub mod Rows
