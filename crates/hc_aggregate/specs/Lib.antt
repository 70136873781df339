pub mod Group
pub mod Tally
pub mod Turn
pub mod Sound
pub mod Laws
