pub mod Printed
pub mod Script
pub mod Replica
pub mod Replay
pub mod Running
pub mod Grammar
pub mod Laws
