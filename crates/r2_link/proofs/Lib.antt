pub mod Faults
pub mod Links
pub mod Records
pub mod Streams
pub mod Told
