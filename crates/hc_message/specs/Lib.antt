pub mod Entry
pub mod Fields
pub mod Faults
pub mod Message
pub mod Reading
pub mod Laws
