-- What can be said of reading: a contract of the kit says what a read answers, and not which bytes it reads.
pub mod Reading
