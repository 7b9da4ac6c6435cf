-- Relations on jobs as tables of bits, and lists of arcs as flat numbers.
pub mod Table
pub mod Arcs
pub mod Exchange
