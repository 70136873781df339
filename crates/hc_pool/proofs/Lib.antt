pub mod Requests
pub mod Keyed
