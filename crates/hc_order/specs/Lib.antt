pub mod Apart
pub mod Taking
pub mod Ordering
pub mod Counting
pub mod Laws
