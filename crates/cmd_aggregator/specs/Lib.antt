pub mod Aggregates
pub mod Untimed
