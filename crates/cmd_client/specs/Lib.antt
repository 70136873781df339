pub mod Talk
pub mod Outside
pub mod Stops
pub mod Steps
pub mod Script
pub mod Lines
pub mod Caller
pub mod Calls
