pub mod Call
pub mod Commands
pub mod End
pub mod Laws
pub mod Options
pub mod Policy
pub mod Texts
pub mod Words
