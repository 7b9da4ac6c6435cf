-- The theory of series-parallel orders: what a reader must believe; Inner is for inner contracts alone.
pub mod Lists
pub mod Order
pub mod Tree
pub mod Decompose
pub mod Areas
pub mod Inner
