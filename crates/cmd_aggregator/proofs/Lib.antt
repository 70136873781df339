pub mod Aggregates
pub mod Splits
pub mod Still
pub mod Untimed
