pub mod Trails
pub mod Counts
pub mod Beginnings
pub mod Sums
pub mod Passes
