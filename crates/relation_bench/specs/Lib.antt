-- What the benchmark's functions compute.
pub mod Steps
