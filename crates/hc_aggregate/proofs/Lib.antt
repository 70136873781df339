pub mod Tallies
pub mod Found
pub mod Cases
pub mod Turns
pub mod Reached
pub mod Shown
pub mod Outcomes
