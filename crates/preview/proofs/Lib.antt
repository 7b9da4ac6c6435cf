pub mod Joining
pub mod Rooms
pub mod Answering
pub mod Numbers
pub mod Drafts
pub mod Calls
pub mod Examples
pub mod Theorems
