pub mod Node
pub mod Sends
pub mod Told
