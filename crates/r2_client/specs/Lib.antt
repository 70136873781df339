pub mod Faults
pub mod State
pub mod Sendings
pub mod Session
pub mod Sound
pub mod Runs
pub mod Laws
