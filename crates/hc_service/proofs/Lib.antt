pub mod Counts
pub mod Entries
pub mod Running
pub mod Answering
