pub mod Addr
pub mod Entry
pub mod Limits
pub mod Memory
pub mod Names
pub mod Numbers
pub mod Text
