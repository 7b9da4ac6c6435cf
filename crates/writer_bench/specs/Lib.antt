-- What the benchmark's function computes.
pub mod Rounds
