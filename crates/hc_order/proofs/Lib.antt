pub mod Greatest
pub mod Growing
pub mod Grown
pub mod Apart
pub mod Orders
pub mod Agreed
pub mod Takings
pub mod Orderings
