pub mod State
pub mod Notices
pub mod Timers
pub mod Turn
pub mod Ignored
pub mod Sound
pub mod Ages
pub mod Laws
