pub mod Going
pub mod RunsOn
pub mod Telling
