pub mod Replica
pub mod Party
pub mod Laws
pub mod Command
