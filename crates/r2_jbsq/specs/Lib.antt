pub mod Limits
pub mod History
pub mod Standing
pub mod Answer
pub mod Packets
pub mod State
pub mod Turns
pub mod Laws
